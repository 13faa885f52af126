mod GivenLemmas

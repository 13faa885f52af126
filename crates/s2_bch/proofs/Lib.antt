pub mod WordFacts
mod DivisionFacts
mod LocatorTheory
mod Horner
mod ValueFacts
mod Flipping
mod Tails
mod RegisterFacts
mod TableFacts
mod MessageFacts
mod Locators
mod TermLemmas
mod Places
mod SplittingFacts
mod Shortest
mod Decoder
mod RootFacts
pub mod GeneratorDegrees
mod GeneratorFacts
mod MinimalFacts
mod CodeFacts
mod Lent
mod RestFacts
mod NearWords
mod Distances
pub mod NearestWords

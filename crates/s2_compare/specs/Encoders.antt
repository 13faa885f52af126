-- What an encoder of BBFRAMEs holds (own).
use Rattle.std.specs.Prelude.{◌≡◌, List, Bool, length}
use Rattle.s2_mode.specs.Mode.{Mode, kbch_of, k_of, HasCodeSizes}

-- the buffers are the mode's
pub record FitsMode (mode : Mode) (message bch_word : List Bool) : Type 0 where
  pub sizes : HasCodeSizes mode
  pub message_bits : length message ≡ kbch_of mode
  pub bch_bits : length bch_word ≡ k_of mode

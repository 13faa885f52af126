pub mod JoinedTexts
pub mod NameTexts
pub mod Codes
pub mod DigitTexts
pub mod RateTextLemmas

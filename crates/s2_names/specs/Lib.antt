pub mod Names
pub mod Rates
pub mod RateTexts
pub mod Ideal
pub mod ModeLines

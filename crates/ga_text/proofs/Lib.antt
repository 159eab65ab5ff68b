pub mod Numbers
pub mod DigitLemmas
pub mod WriteLemmas
pub mod TextLemmas
pub mod Taking

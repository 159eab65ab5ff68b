pub mod Lists
pub mod Shifts
pub mod Windows
pub mod Standings
pub mod SlotTexts
pub mod Putting

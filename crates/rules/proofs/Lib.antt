pub mod Parlour
pub mod SoundCases
pub mod RefusalCases
pub mod CallCases
pub mod RawCases
pub mod SerialCases

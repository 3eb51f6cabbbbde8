pub mod Principal
pub mod View
pub mod Codes
pub mod Kind
pub mod Refusal
pub mod Reading
pub mod TermFields

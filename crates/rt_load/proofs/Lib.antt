pub mod CellLemmas
pub mod LoadLemmas
pub mod ReaderLemmas
pub mod RecordLemmas
pub mod SuitLemmas
pub mod TrimLemmas

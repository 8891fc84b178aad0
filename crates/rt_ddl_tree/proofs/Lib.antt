pub mod ColumnLaws
pub mod MemberLemmas
pub mod ReaderLaws
pub mod TestLaws
pub mod TextLaws
pub mod TreeLemmas

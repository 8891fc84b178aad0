pub mod Reference

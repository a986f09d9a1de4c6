pub mod FieldReaders

pub mod SerialOrder

pub mod Histories
mod WorkedOrders

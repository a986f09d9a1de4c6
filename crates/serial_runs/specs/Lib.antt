pub mod SerialLogs

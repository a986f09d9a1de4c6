pub mod OrderedOperations
pub mod ScriptOperations
pub mod SerialScripts
pub mod SerialGrowth

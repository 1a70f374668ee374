pub mod Grammar
pub mod RawNodes
pub mod RawCode
pub mod Calls
pub mod NodeCalls
pub mod Growing
pub mod ParsedCode

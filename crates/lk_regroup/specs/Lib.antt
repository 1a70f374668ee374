pub mod FieldSources
pub mod Had
pub mod ComponentParts
pub mod Regroupings

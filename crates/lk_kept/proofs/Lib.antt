pub mod DifferLaws
pub mod TextLaws
pub mod PlanLaws
pub mod IdLaws
pub mod ChunkLaws
pub mod StoreLaws
pub mod SchemaLaws

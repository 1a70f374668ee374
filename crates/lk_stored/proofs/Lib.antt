pub mod Logic
pub mod JoinLaws
pub mod ReadLaws
pub mod WithinLaws
pub mod FaultLaws

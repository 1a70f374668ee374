pub mod RawLaws
pub mod GatheredLaws
pub mod MeasureLaws
pub mod CallLaws

pub mod PostfixLaws

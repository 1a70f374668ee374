pub mod RefusalLaws

pub mod GrammarForms
pub mod TerminalGrammar
pub mod SyntaxPlaces
pub mod ExprTexts

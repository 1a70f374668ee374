-- The fields of an explore with the formulas that stand in a model.
use Rattle.lk_formulas.specs.declared.columns.UnknownColumn.TheVariants as unknown_column
use Rattle.lk_formulas.specs.Resolved.{IsTableOf}
use Rattle.lk_scope.specs.Told.{IsTold}
use Rattle.lk_resolved.specs.declared.formulas.ModelFields.{ModelFields}

-- both tables were made of the same views in this scope, over columns of these kinds
pub record IsModelTold (m : ModelFields) : Type 0 where
  pub told : IsTold m.fields.now
  pub kept : IsTableOf m.fields.now.schema.now m.fields.now.views.now m.fields.now.scope.now m.fields.now.columns.now unknown_column.Kept m.kept.now

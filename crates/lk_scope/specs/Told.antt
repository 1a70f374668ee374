-- The fields of a scope with their formulas. (lookd)
use Rattle.lk_formulas.specs.declared.columns.UnknownColumn.TheVariants as unknown_column
use Rattle.lk_formulas.specs.Resolved.{IsTableOf}
use Rattle.lk_scope.specs.declared.scope_fields.ScopeFields.{ScopeFields}

-- the table was made of the same views in this scope, over columns of these kinds, where a column of unknown kind is null
abbrev pub IsTold : ScopeFields → Type 0
IsTold fields =
    IsTableOf fields.schema.now fields.views.now fields.scope.now fields.columns.now unknown_column.Null fields.table.now

-- Where the characters of a text stand between its quotes, byte by byte.
use Rattle.std.specs.Prelude.{ℕ, ◌==◌, if◌then◌else◌, Option, Some, None, option_map}
use Rattle.lk_utf8.specs.declared.utf8.Utf8.{Utf8}
use Rattle.lk_utf8.specs.declared.utf8.Utf8.TheVariants as utf8
use Rattle.lk_utf8.specs.Utf8.{utf8_after, is_whole}
use Rattle.lk_expr_token.specs.declared.quoting.Quoting.{Quoting}
use Rattle.lk_expr_token.specs.declared.quoting.Quoting.TheVariants.{Unopened, Inside, BehindQuote}

-- a quote opens the text, and one behind another stands for itself
abbrev pub opened : ℕ → Option Quoting
opened b = if b == 39 then Some (Inside utf8.Whole) else None

-- a quote may end the text where its characters are whole
abbrev pub closed : Utf8 → Option Quoting
closed owed = if is_whole owed then Some BehindQuote else None

-- where the characters stand behind one more byte, where it may stand there
abbrev pub quoting_after : Quoting → ℕ → Option Quoting
quoting_after Unopened b = opened b
quoting_after (Inside owed) b = if b == 39 then closed owed else option_map Inside (utf8_after owed b)
quoting_after BehindQuote b = opened b

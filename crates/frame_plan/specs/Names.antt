-- The names of a plan, which says them in its lines.
use Rattle.std.specs.Prelude.{ℕ, ◌≡◌, List}
use Rattle.frame_ast.specs.declared.script.Script.{Script}

-- These are the names of the script, byte for byte and in their order.
abbrev pub AreNamesOf : Script → List (List ℕ) → Type 0
AreNamesOf script names = names ≡ script.names

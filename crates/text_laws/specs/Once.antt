-- The bytes of a file spell one script or are refused for one fault: at most one of either, and never both.
use Rattle.std.specs.Prelude.{ℕ, ◌≡◌, List}
use Rattle.frame_ast.specs.declared.kernel.FaultKind.{FaultKind}
use Rattle.frame_ast.specs.declared.script.Script.{Script}
use Rattle.frame_script.specs.Loading.{Spells, IsRefused}
use Rattle.tree_laws.specs.Same.{SameScript}

-- two scripts that the same bytes spell are the same
abbrev pub ScriptsAreSpelledOnce : Type 0
ScriptsAreSpelledOnce = (bytes : List ℕ) (a b : Script) → Spells bytes a → Spells bytes b → SameScript a b

-- two refusals of the same bytes tell the same line and the same kind
abbrev pub RefusalsAreOnce : Type 0
RefusalsAreOnce = (bytes : List ℕ) (line other_line : ℕ) (kind other_kind : FaultKind) →
    IsRefused bytes line kind → IsRefused bytes other_line other_kind → (line ≡ other_line) × (kind ≡ other_kind)

-- bytes that spell a script are not refused
abbrev pub SpelledIsNotRefused : Type 0
SpelledIsNotRefused = (bytes : List ℕ) (script : Script) (line : ℕ) (kind : FaultKind) →
    Spells bytes script → IsRefused bytes line kind → ⊥

-- Where binds stand.
use Rattle.std.specs.Prelude.{◌≡◌, ℕ, ◌≤◌, ◌<◌, List, Some, slice_get}
use Rattle.frame_ast.specs.declared.kernel.Param.{Param}
use Rattle.kernel_exec.specs.declared.binds.Bind.{Bind}
use Rattle.kernel_exec.specs.Binds.{kind_of, end_of, IsWordOf}

-- all words of binds are below a number
abbrev pub AreBelow : List Bind → ℕ → Type 0
AreBelow binds n = (x : ℕ) (b : Bind) → slice_get binds x ≡ Some b → end_of b ≤ n

-- each bind is of the kind of its parameter
abbrev pub AreOfKinds : List Param → List Bind → Type 0
AreOfKinds params binds = (x : ℕ) (p : Param) (b : Bind) → slice_get params x ≡ Some p → slice_get binds x ≡ Some b
    → kind_of b ≡ p.kind

-- no word is of both binds
abbrev pub Apart : Bind → Bind → Type 0
Apart a b = (w : ℕ) → IsWordOf a w → IsWordOf b w → ⊥

-- a bind shares no word with any of others
abbrev pub ApartFrom : Bind → List Bind → Type 0
ApartFrom a binds = (x : ℕ) (b : Bind) → slice_get binds x ≡ Some b → Apart a b

-- no two binds share a word
abbrev pub AreApart : List Bind → Type 0
AreApart binds = (x y : ℕ) (a b : Bind) → x < y → slice_get binds x ≡ Some a → slice_get binds y ≡ Some b → Apart b a

-- Two ways to keep arguments, related by R.
use Rattle.std.specs.Prelude.{◌≡◌, ℕ, ℤ, pos, IsTrue, List, length, get_or, Result, Ok, Err}
use Rattle.job_base.specs.declared.limits.TheConstants.{MOST_PARAMS}
use Rattle.job_base.specs.declared.Trap.{Trap}
use Rattle.frame_ast.specs.declared.kernel.Param.{Param}
use Rattle.frame_ast.specs.Lists.{member}
use Rattle.frame_ast.specs.Expressions.{Operations}
use Rattle.frame_ast.specs.Kernels.{State, Outcome, Action, Goes, Traps, trap_after, store_after}
use Rattle.frame_ast.specs.Checked.{meets, read_stream, clearable, may_write}

-- both went on to related values, or both met the same trap
abbrev pub AlikeResults : {S T : Type 0} → (S → T → Type 0) → Result S Trap → Result T Trap → Type 0
AlikeResults R (Ok s) (Ok t) = R s t
AlikeResults R (Ok s) (Err u) = ⊥
AlikeResults R (Err t) (Ok s) = ⊥
AlikeResults R (Err t) (Err u) = t ≡ u

-- What is read is the same, and what is changed keeps R, wherever a checked kernel of these parameters reads and
-- changes: it changes what it may write alone, reads the items of streams that are read, clears lists and maps, and
-- writes at an index that it has begun. Begun holds of a parameter's begun index.
pub record Simulates {S T : Type 0} (R : S → T → Type 0) (params : List Param) (Begun : ℕ → ℤ → Type 0)
    (p : Operations S) (q : Operations T) : Type 0 where
  pub value : (x : ℕ) (s : S) (t : T) → R s t → p.value x s ≡ q.value x t
  pub len : (x : ℕ) (s : S) (t : T) → R s t → p.len x s ≡ q.len x t
  pub get : (x : ℕ) (i : ℤ) (s : S) (t : T) → R s t → p.get x i s ≡ q.get x i t
  pub has : (x : ℕ) (k : ℤ) (s : S) (t : T) → R s t → p.has x k s ≡ q.has x k t
  pub count : (x : ℕ) (i : ℤ) (s : S) (t : T)
      → IsTrue (meets params x read_stream) → R s t → p.count x i s ≡ q.count x i t
  pub item : (x : ℕ) (i k : ℤ) (s : S) (t : T)
      → IsTrue (meets params x read_stream) → R s t → p.item x i k s ≡ q.item x i k t
  pub set_value : (x : ℕ) (v : ℤ) (s : S) (t : T)
      → IsTrue (may_write params x) → R s t → R (p.set_value x v s) (q.set_value x v t)
  pub put : (x : ℕ) (i v : ℤ) (s : S) (t : T)
      → IsTrue (may_write params x) → R s t → AlikeResults R (p.put x i v s) (q.put x i v t)
  pub add : (x : ℕ) (v : ℤ) (s : S) (t : T)
      → IsTrue (may_write params x) → R s t → AlikeResults R (p.add x v s) (q.add x v t)
  pub remove_at : (x : ℕ) (i : ℤ) (s : S) (t : T)
      → IsTrue (may_write params x) → R s t → AlikeResults R (p.remove_at x i s) (q.remove_at x i t)
  pub add_pair : (x : ℕ) (k v : ℤ) (s : S) (t : T)
      → IsTrue (may_write params x) → R s t → AlikeResults R (p.add_pair x k v s) (q.add_pair x k v t)
  pub remove_key : (x : ℕ) (k : ℤ) (s : S) (t : T)
      → IsTrue (may_write params x) → R s t → R (p.remove_key x k s) (q.remove_key x k t)
  pub clear : (x : ℕ) (s : S) (t : T)
      → IsTrue (meets params x clearable) → R s t → R (p.clear x s) (q.clear x t)
  pub begin : (x : ℕ) (i : ℤ) (s : S) (t : T)
      → IsTrue (may_write params x) → R s t → AlikeResults R (p.begin x i s) (q.begin x i t)
  pub begun : (x : ℕ) (i : ℤ) (s new : S) → p.begin x i s ≡ Ok new → Begun x i
  pub write : (x : ℕ) (i v : ℤ) (s : S) (t : T)
      → IsTrue (may_write params x) → Begun x i → R s t → AlikeResults R (p.write x i v s) (q.write x i v t)

-- what holds of the begun indexes inside `begin` blocks of these streams
abbrev pub AreBegun : (ℕ → ℤ → Type 0) → List ℕ → List ℤ → Type 0
AreBegun Begun open_ begun =
    (length begun ≡ MOST_PARAMS) × ((x : ℕ) → IsTrue (member x open_) → Begun x (get_or begun x (pos 0)))

-- two states alike but for their stores, which are related; and what H says of the begun indexes holds
pub record AlikeStates {S T : Type 0} (R : S → T → Type 0) (H : List ℤ → Type 0)
    (s : State S) (t : State T) : Type 0 where
  pub steps : s.steps ≡ t.steps
  pub locals : s.locals ≡ t.locals
  pub begun : s.begun ≡ t.begun
  pub store : R s.store t.store
  pub have : H s.begun

abbrev pub AlikeOutcomes : {S T : Type 0} → (S → T → Type 0) → (List ℤ → Type 0) → Outcome S → Outcome T → Type 0
AlikeOutcomes R H (Goes s) (Goes t) = AlikeStates R H s t
AlikeOutcomes R H (Goes s) (Traps u t) = ⊥
AlikeOutcomes R H (Traps u s) (Goes t) = ⊥
AlikeOutcomes R H (Traps t s) (Traps u r) = (t ≡ u) × R s r

abbrev pub AlikeActions : {S T : Type 0} → (S → T → Type 0) → (List ℤ → Type 0) → Action S → Action T → Type 0
AlikeActions R H f g = (s : _) (t : _) → AlikeStates R H s t → AlikeOutcomes R H (f s) (g t)

-- an Execute: the same trap, or none, and related stores
pub record AlikeEnds {S T : Type 0} (R : S → T → Type 0) (o : Outcome S) (p : Outcome T) : Type 0 where
  pub trap : trap_after o ≡ trap_after p
  pub store : R (store_after o) (store_after p)

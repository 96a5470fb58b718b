-- A kernel does the same whatever the operations do at numbers that are none of its parameters.
use Rattle.std.proofs.Common.{◌≡◌, ℕ, ◌<◌, inl, inr, Bool, true, false, ◌&&◌, ℤ, pos, List, [], ◌∷◌, length, map, get_or, set, Result, Ok, refl, sym, ap, subst, ◌∙◌}
use Rattle.std.specs.Prelude.{neg_ℤ, not, nat_lt}
use Rattle.std.proofs.lemmas.Bool.{cases_lt}
use Rattle.std.proofs.lemmas.Option.{slice_get_past}
use Rattle.job_base.specs.declared.Trap.{Trap}
use Rattle.frame_ast.specs.declared.kernel.Param.{Param}
use Rattle.frame_ast.specs.declared.kernel.Expr.{Expr}
use Rattle.frame_ast.specs.declared.kernel.Expr.TheVariants.{Number, Index, Local, Value, Element', Length, Has', Count', Item', Negative', Not', And', Or', Binary'}
use Rattle.frame_ast.specs.declared.kernel.Stmt.{Stmt}
use Rattle.frame_ast.specs.declared.kernel.Stmt.TheOpen.{Stmt-F, Assign, SetValue, Store, Add, AddPair, TryAdd, RemoveAt, RemoveKey, Clear, Write, Begin, If, For, While}
use Rattle.frame_ast.specs.declared.kernel.Stmt.TheViews.{roll-Stmt}
use Rattle.frame_ast.specs.declared.kernel.Stmt.TheFolds.{map-Stmt, fold-roll-Stmt, ind-Stmt}
use Rattle.frame_ast.specs.Checked.{Demand, a_value, read_elements, read_map, read_stream, written_value, written_elements, written_list, written_map, changed_map, clearable, written_stream, measurable, meets, param_meets, expr_fits, all_fit, statement_fits, stmt_fits}
use Rattle.frame_ast.specs.Lists.{member}
use Rattle.frame_ast.specs.Contents.{then_value}
use Rattle.frame_ast.specs.Expressions.{Operations, checked, one_if, holds, operate, also, otherwise, value_of}
use Rattle.frame_ast.specs.Kernels.{State, Action, Goes, then_do, with_value, changes, spend, with_local, choose, in_turn, count_between, turns, turns_while, try_add_action, act_of, statement, meaning, fresh, execution}
use Rattle.frame_ast.proofs.Simulation.{and_left, and_right}

not_both : {b : Bool} → b ≡ true → b ≡ false → ⊥
not_both t f = cc

-- two ways to do an operation that do the same at each of n parameters
pub record AgreeBelow {S : Type 0} (n : ℕ) (p q : Operations S) : Type 0 where
  pub value : (x : ℕ) → x < n → p.value x ≡ q.value x
  pub set_value : (x : ℕ) → x < n → p.set_value x ≡ q.set_value x
  pub len : (x : ℕ) → x < n → p.len x ≡ q.len x
  pub get : (x : ℕ) → x < n → p.get x ≡ q.get x
  pub put : (x : ℕ) → x < n → p.put x ≡ q.put x
  pub add : (x : ℕ) → x < n → p.add x ≡ q.add x
  pub remove_at : (x : ℕ) → x < n → p.remove_at x ≡ q.remove_at x
  pub has : (x : ℕ) → x < n → p.has x ≡ q.has x
  pub add_pair : (x : ℕ) → x < n → p.add_pair x ≡ q.add_pair x
  pub remove_key : (x : ℕ) → x < n → p.remove_key x ≡ q.remove_key x
  pub clear : (x : ℕ) → x < n → p.clear x ≡ q.clear x
  pub count : (x : ℕ) → x < n → p.count x ≡ q.count x
  pub item : (x : ℕ) → x < n → p.item x ≡ q.item x
  pub begin : (x : ℕ) → x < n → p.begin x ≡ q.begin x
  pub write : (x : ℕ) → x < n → p.write x ≡ q.write x

-- what is asked of a parameter is asked of one that is there
pub is_param : (params : List Param) (x : ℕ) (d : Demand) → meets params x d ≡ true → x < length params
is_param params x d h = elim (cases_lt x (length params)) [
  | inl lt ↦ lt
  | inr ge ↦ absurd (not_both h (ap (param_meets d) (slice_get_past params x ge)))
]

module _ {S : Type 0} (p q : Operations S) (params : List Param) (A : AgreeBelow (length params) p q) (parallel : Bool)
    (locals : ℕ) (index : ℕ) where
  abbrev fits : Expr → Bool
  fits = expr_fits parallel params locals

  value_same : (e : Expr) → fits e ≡ true → value_of p index e ≡ value_of q index e
  value_same (Number n) h = refl
  value_same Index h = refl
  value_same (Local k) h = refl
  value_same (Value x) h = λ i locals s. Ok (A.value x (is_param params x a_value h) i s)
  value_same (Element' x a e) h =
      λ i locals s. then_value (value_same e (and_right _ _ h) i locals s)
      (λ j. A.get x (is_param params x read_elements (and_left (meets params x read_elements) _ h)) i j s)
  value_same (Length x) h = λ i locals s. Ok (pos (A.len x (is_param params x measurable h) i s))
  value_same (Has' x a e) h =
      λ i locals s. then_value (value_same e (and_right _ _ h) i locals s)
      (λ k. Ok (one_if (A.has x (is_param params x read_map (and_left (meets params x read_map) _ h)) i k s)))
  value_same (Count' x a e) h =
      λ i locals s. then_value (value_same e (and_right _ _ h) i locals s)
      (λ j. then_value (A.count x
      (is_param params x read_stream (and_left (meets params x read_stream) _ h)) i j s) (λ n. Ok (pos n)))
  value_same (Item' x a e f) h =
      λ i locals s. then_value (value_same e (and_left _ _ (and_right _ _ h)) i locals s)
      (λ j. then_value (value_same f (and_right _ _ (and_right _ _ h)) i locals s)
      (λ k. A.item x (is_param params x read_stream (and_left (meets params x read_stream) _ h)) i j k s))
  value_same (Negative' a e) h = λ i locals s. then_value (value_same e h i locals s) (λ n. checked (neg_ℤ n))
  value_same (Not' a e) h = λ i locals s. then_value (value_same e h i locals s) (λ n. Ok (one_if (not (holds n))))
  value_same (And' a e f) h =
      λ i locals s. then_value (value_same e (and_left _ _ h) i locals s)
      (λ m. also (holds m) (λ _. value_same f (and_right _ _ h) i locals s))
  value_same (Or' a e f) h =
      λ i locals s. then_value (value_same e (and_left _ _ h) i locals s)
      (λ m. otherwise (holds m) (λ _. value_same f (and_right _ _ h) i locals s))
  value_same (Binary' op a e f) h =
      λ i locals s. then_value (value_same e (and_left _ _ h) i locals s)
      (λ m. then_value (value_same f (and_right _ _ h) i locals s) (λ n. operate op m n))

  abbrev in_p : Expr → State S → Result ℤ Trap
  in_p e s = value_of p index e s.locals s.store

  abbrev in_q : Expr → State S → Result ℤ Trap
  in_q e s = value_of q index e s.locals s.store

  at : (e : Expr) → fits e ≡ true → in_p e ≡ in_q e
  at e h = λ i s. value_same e h i s.locals s.store

  abbrev IsSame : Stmt → Type 0
  IsSame s = (open_ : List ℕ) → stmt_fits parallel params locals s open_ ≡ true → meaning p index s ≡ meaning q index s

  abbrev whole : Stmt-F ((s : Stmt) × IsSame s) → Stmt-F Stmt
  whole = map-Stmt ((s : Stmt) × IsSame s) Stmt (λ e. e.0)

  abbrev block_fits : List ((s : Stmt) × IsSame s) → List ℕ → Bool
  block_fits body = all_fit (map (stmt_fits parallel params locals) (map (λ e. e.0) body))

  block_same : (body : List ((s : Stmt) × IsSame s)) (open_ : List ℕ)
      → all_fit (map (stmt_fits parallel params locals) (map (λ e. e.0) body)) open_ ≡ true
      → map (meaning p index) (map (λ e. e.0) body) ≡ map (meaning q index) (map (λ e. e.0) body)
  block_same [] open_ h = refl
  block_same (x ∷ more) open_ h = λ i. x.1 open_ (and_left _ _ h) i ∷ block_same more open_ (and_right _ _ h) i

  abbrev form_fits : Stmt-F Stmt → List ℕ → Bool
  form_fits z = statement_fits params locals fits (map-Stmt Stmt (List ℕ → Bool) (stmt_fits parallel params locals) z)

  form_same : (z : Stmt-F ((s : Stmt) × IsSame s)) (open_ : List ℕ) → form_fits (whole z) open_ ≡ true
      → act_of p in_p (map-Stmt Stmt (Action S) (meaning p index) (whole z))
      ≡ act_of q in_q (map-Stmt Stmt (Action S) (meaning q index) (whole z))
  form_same (Assign k e) open_ h = λ i s. with_value (at e (and_right _ _ h) i s) s (λ z. Goes (with_local k z s))
  form_same (SetValue x e) open_ h =
      λ i s. with_value (at e (and_right _ _ h) i s) s
      (λ z. Goes (record s {
        store = A.set_value x
            (is_param params x written_value (and_left (meets params x written_value) _ h)) i z s.store;
      }))
  form_same (Store x e f) open_ h =
      λ i s. with_value (at e (and_left _ _ (and_right _ _ h)) i s) s
      (λ j. with_value (at f (and_right _ _ (and_right _ _ h)) i s) s
      (λ v. changes (A.put x (is_param params x written_elements
      (and_left (meets params x written_elements) _ h)) i j v s.store) s))
  form_same (Add x e) open_ h =
      λ i s. with_value (at e (and_right _ _ h) i s) s
      (λ v. changes (A.add x (is_param params x written_list
      (and_left (meets params x written_list) _ h)) i v s.store) s)
  form_same (AddPair x e f) open_ h =
      λ i s. with_value (at e (and_left _ _ (and_right _ _ h)) i s) s
      (λ k. with_value (at f (and_right _ _ (and_right _ _ h)) i s) s
      (λ v. changes (A.add_pair x
      (is_param params x written_map (and_left (meets params x written_map) _ h)) i k v s.store) s))
  form_same (TryAdd y x e f) open_ h =
      let there = is_param params x changed_map (and_left (meets params x changed_map) _ (and_right _ _ h)) in
      λ i s. with_value (at e (and_left _ _ (and_right _ _ (and_right _ _ h))) i s) s
      (λ k. with_value (at f (and_right (fits e) (fits f)
      (and_right (meets params x changed_map) (fits e && fits f)
      (and_right (nat_lt y locals) (meets params x changed_map && (fits e && fits f)) h))) i s) s
      (λ v. tried y x k v s there i))
    where
      tried : (y x : ℕ) (k v : ℤ) (s : State S) → x < length params
          → try_add_action p y x k v (p.has x k s.store) s ≡ try_add_action q y x k v (q.has x k s.store) s
      tried y x k v s there = ap (λ b. try_add_action p y x k v b s) (λ i. A.has x there i k s.store)
          ∙ added (q.has x k s.store)
        where
          added : (b : Bool) → try_add_action p y x k v b s ≡ try_add_action q y x k v b s
          added true = refl
          added false = λ i. changes (A.add_pair x there i k v s.store) (with_local y (pos 1) s)
  form_same (RemoveAt x e) open_ h =
      λ i s. with_value (at e (and_right _ _ h) i s) s
      (λ j. changes (A.remove_at x
      (is_param params x written_list (and_left (meets params x written_list) _ h)) i j s.store) s)
  form_same (RemoveKey y x e) open_ h =
      let there = is_param params x changed_map (and_left (meets params x changed_map) _ (and_right _ _ h)) in
      λ i s. with_value (at e (and_right _ _ (and_right _ _ h)) i s) s
      (λ k. Goes (record s {
        locals = set s.locals y (one_if (A.has x there i k s.store));
        store = A.remove_key x there i k s.store;
      }))
  form_same (Clear x) open_ h = λ i s. Goes (record s { store = A.clear x (is_param params x clearable h) i s.store })
  form_same (Write x e) open_ h =
      λ i s. with_value (at e (and_right _ _ (and_right _ _ h)) i s) s
      (λ v. changes (A.write x (is_param params x written_stream (and_left (meets params x written_stream) _ h)) i
      (get_or s.begun x (pos 0)) v s.store) s)
  form_same (Begin x e body) open_ h =
      let there = is_param params x written_stream (and_left (meets params x written_stream) _ h) in
      λ i s. with_value (at e (and_left _ _ (and_right _ _ (and_right _ _ h))) i s) s
      (λ j. then_do (changes (A.begin x there i j s.store) s)
      (λ s. in_turn (block_same body.items (x ∷ open_)
      (and_right (fits e) (block_fits body.items (x ∷ open_))
      (and_right (not (member x open_)) (fits e && block_fits body.items (x ∷ open_))
      (and_right (meets params x written_stream)
      (not (member x open_) && (fits e && block_fits body.items (x ∷ open_))) h))) i)
      (record s { begun = set s.begun x j })))
  form_same (If e body other) open_ h =
      λ i s. with_value (at e (and_left _ _ h) i s) s
      (λ z. choose (holds z) (in_turn (block_same body.items open_ (and_left _ _ (and_right _ _ h)) i))
      (in_turn (block_same other.items open_ (and_right _ _ (and_right _ _ h)) i)) s)
  form_same (For k e f body) open_ h =
      λ i s. with_value (at e (and_left _ _ (and_right _ _ h)) i s) s
      (λ a. with_value (at f (and_left _ _ (and_right _ _ (and_right _ _ h))) i s) s
      (λ b. turns (count_between a b) k a
      (in_turn (block_same body.items open_
      (and_right (fits f) (block_fits body.items open_) (and_right (fits e) (fits f && block_fits body.items open_)
      (and_right (nat_lt k locals) (fits e && (fits f && block_fits body.items open_)) h))) i)) s))
  form_same (While e body) open_ h =
      λ i s. turns_while s.steps (at e (and_left _ _ h) i) (in_turn (block_same body.items open_ (and_right _ _ h) i)) s

  at_roll : (z : Stmt-F ((s : Stmt) × IsSame s)) → IsSame (roll-Stmt (whole z))
  at_roll z open_ h =
      rw (
        fold-roll-Stmt (Action S) (statement p index) (whole z),
        fold-roll-Stmt (Action S) (statement q index) (whole z),
      )
      (λ i s. spend s (form_same z open_
      ((λ j. sym (fold-roll-Stmt (List ℕ → Bool) (statement_fits params locals fits) (whole z)) j open_) ∙ h) i))

  statement_same : (s : Stmt) → IsSame s
  statement_same = ind-Stmt IsSame (λ x y is. subst (λ z. IsSame (roll-Stmt z)) is (at_roll y))

  meanings_same : (body : List Stmt) (open_ : List ℕ)
      → all_fit (map (stmt_fits parallel params locals) body) open_ ≡ true
      → map (meaning p index) body ≡ map (meaning q index) body
  meanings_same [] open_ h = refl
  meanings_same (x ∷ more) open_ h =
      λ i. statement_same x open_ (and_left _ _ h) i ∷ meanings_same more open_ (and_right _ _ h) i

  pub execution_same : (body : List Stmt) → all_fit (map (stmt_fits parallel params locals) body) [] ≡ true
      → (steps : ℕ) (s : S) → execution p body steps index s ≡ execution q body steps index s
  execution_same body h steps s = λ i. in_turn (meanings_same body [] h i) (fresh steps s)

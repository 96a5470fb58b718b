-- A checked kernel does the same whichever way its arguments are kept.
use Rattle.std.proofs.Common.{◌≡◌, ◌∙◌, ◌≢◌, ◌⊎◌, inl, inr, sym, ℕ, zero, suc, ◌+◌, ◌≤◌, ◌<◌, nat_eq, ◌++◌, ℤ, pos, Bool, true, false, IsTrue, ◌&&◌, List, [], ◌∷◌, length, map, get_or, set, Some, Result, Ok, Err, refl, ap, subst, arith, length-set, get_or-set_other}
use Rattle.std.specs.Prelude.{neg_ℤ, not, ◌||◌, nat_lt}
use Rattle.std.proofs.lemmas.Grind.{get_or-set_at}
use Rattle.std.proofs.lemmas.Bool.{cases_eq}
use Rattle.std.proofs.lemmas.Bool.Decides.{nat_tests}
use Rattle.job_base.specs.declared.limits.TheConstants.{MOST_PARAMS}
use Rattle.job_base.specs.declared.Trap.{Trap}
use Rattle.frame_ast.specs.declared.kernel.Param.{Param}
use Rattle.frame_ast.specs.declared.kernel.Kernel.{Kernel}
use Rattle.frame_ast.specs.declared.kernel.Expr.{Expr}
use Rattle.frame_ast.specs.declared.kernel.Expr.TheVariants.{Number, Index, Local, Value, Element', Length, Has', Count', Item', Negative', Not', And', Or', Binary'}
use Rattle.frame_ast.specs.declared.kernel.Stmt.{Stmt}
use Rattle.frame_ast.specs.declared.kernel.Stmt.TheOpen.{Stmt-F, Assign, SetValue, Store, Add, AddPair, TryAdd, RemoveAt, RemoveKey, Clear, Write, Begin, If, For, While}
use Rattle.frame_ast.specs.declared.kernel.Stmt.TheViews.{roll-Stmt}
use Rattle.frame_ast.specs.declared.kernel.Stmt.TheFolds.{map-Stmt, fold-roll-Stmt, ind-Stmt}
use Rattle.frame_ast.specs.Lists.{member}
use Rattle.frame_ast.specs.Contents.{then_value}
use Rattle.frame_ast.specs.Expressions.{Operations, checked, one_if, holds, operate, also, otherwise, value_of}
use Rattle.frame_ast.specs.Kernels.{State, Outcome, Action, Goes, Traps, then_do, with_value, changes, with_local, in_turn, count_between, turns_while, Eval, try_add_action, remove_key_action, begin_action, act_of, statement, meaning, body_meaning, fresh, execution, trap_after, store_after}
use Rattle.frame_ast.specs.JobRuns.{Ran, trap_at, indexes, executes, job_run}
use Rattle.frame_ast.specs.Checked.{meets, written_value, written_elements, written_list, written_map, changed_map, written_stream, expr_fits, statement_fits, stmt_fits, all_fit, may_write, IsChecked}
use Rattle.frame_ast.specs.Simulation.{AlikeResults, Simulates, AreBegun, AlikeStates, AlikeOutcomes, AlikeActions, AlikeEnds}
use Rattle.frame_ast.proofs.Alike.{with_alike, changes_alike, local_alike, store_alike, spend_alike, then_alike, choose_alike, turns_alike, while_alike}
use Rattle.frame_ast.proofs.Demands.{has_param, written}

pub and_left : (a b : Bool) → (a && b) ≡ true → a ≡ true
and_left true b h = refl
and_left false b h = h

pub and_right : (a b : Bool) → (a && b) ≡ true → b ≡ true
and_right true b h = h
and_right false b h = cc

then_same : {A B : Type 0} (v : Result A Trap) (f g : A → Result B Trap) → ((i : A) → f i ≡ g i) → then_value v f ≡ then_value v g
then_same (Ok i) f g same = same i
then_same (Err u) f g same = refl

module _ {S T : Type 0} (R : S → T → Type 0) (parallel : Bool) (params : List Param) (count : ℕ) (Begun : ℕ → ℤ → Type 0) (p : Operations S) (q : Operations T)
    (sim : Simulates R params Begun p q) (index : ℕ) where
  -- ---- expressions

  abbrev fits : Expr → Bool
  fits e = expr_fits parallel params count e

  value_alike : (e : Expr) (locals : List ℤ) (s : S) (t : T) → IsTrue (fits e) → R s t → value_of p index e locals s ≡ value_of q index e locals t
  value_alike (Number n) locals s t h r = refl
  value_alike Index locals s t h r = refl
  value_alike (Local k) locals s t h r = refl
  value_alike (Value x) locals s t h r = ap (λ v. Ok v) (sim.value x s t r)
  value_alike (Element' x a e) locals s t h r =
      ap (λ u. then_value u (λ i. p.get x i s)) (value_alike e locals s t (and_right _ _ h) r)
      ∙ then_same (value_of q index e locals t) _ _ (λ i. sim.get x i s t r)
  value_alike (Length x) locals s t h r = ap (λ n. Ok (pos n)) (sim.len x s t r)
  value_alike (Has' x a e) locals s t h r =
      ap (λ u. then_value u (λ k. Ok (one_if (p.has x k s)))) (value_alike e locals s t (and_right _ _ h) r)
      ∙ then_same (value_of q index e locals t) _ _ (λ k. ap (λ b. Ok (one_if b)) (sim.has x k s t r))
  value_alike (Count' x a e) locals s t h r =
      ap (λ u. then_value u (λ i. then_value (p.count x i s) (λ n. Ok (pos n)))) (value_alike e locals s t (and_right _ _ h) r)
      ∙ then_same (value_of q index e locals t) _ _ (λ i. ap (λ v. then_value v (λ n. Ok (pos n))) (sim.count x i s t (and_left _ _ h) r))
  value_alike (Item' x a e f) locals s t h r =
      ap (λ u. then_value u (λ i. then_value (value_of p index f locals s) (λ k. p.item x i k s))) (value_alike e locals s t (and_left _ _ (and_right _ _ h)) r)
      ∙ ap (λ u. then_value (value_of q index e locals t) (λ i. then_value u (λ k. p.item x i k s)))
      (value_alike f locals s t (and_right _ _ (and_right _ _ h)) r)
      ∙ then_same (value_of q index e locals t) _ _ (λ i. then_same (value_of q index f locals t) _ _ (λ k. sim.item x i k s t (and_left _ _ h) r))
  value_alike (Negative' a e) locals s t h r = ap (λ u. then_value u (λ n. checked (neg_ℤ n))) (value_alike e locals s t h r)
  value_alike (Not' a e) locals s t h r = ap (λ u. then_value u (λ n. Ok (one_if (not (holds n))))) (value_alike e locals s t h r)
  value_alike (And' a e f) locals s t h r =
      ap (λ u. then_value u (λ m. also (holds m) (λ _. value_of p index f locals s))) (value_alike e locals s t (and_left _ _ h) r)
      ∙ ap (λ u. then_value (value_of q index e locals t) (λ m. also (holds m) (λ _. u))) (value_alike f locals s t (and_right _ _ h) r)
  value_alike (Or' a e f) locals s t h r =
      ap (λ u. then_value u (λ m. otherwise (holds m) (λ _. value_of p index f locals s))) (value_alike e locals s t (and_left _ _ h) r)
      ∙ ap (λ u. then_value (value_of q index e locals t) (λ m. otherwise (holds m) (λ _. u))) (value_alike f locals s t (and_right _ _ h) r)
  value_alike (Binary' op a e f) locals s t h r =
      ap (λ u. then_value u (λ m. then_value (value_of p index f locals s) (λ n. operate op m n))) (value_alike e locals s t (and_left _ _ h) r)
      ∙ ap (λ u. then_value (value_of q index e locals t) (λ m. then_value u (λ n. operate op m n))) (value_alike f locals s t (and_right _ _ h) r)

  abbrev in_p : Eval S
  in_p e s = value_of p index e s.locals s.store

  abbrev in_q : Eval T
  in_q e t = value_of q index e t.locals t.store

  -- ---- statements that change one parameter

  module _ (H : List ℤ → Type 0) where
    at : (e : Expr) (s : State S) (t : State T) → IsTrue (fits e) → AlikeStates R H s t → in_p e s ≡ in_q e t
    at e s t h like = value_alike e s.locals s.store t.store h like.store ∙ ap (λ l. value_of q index e l t.store) like.locals

    -- one expression's value, and two
    one : (e : Expr) (s : State S) (t : State T) (f : ℤ → Outcome S) (g : ℤ → Outcome T) → IsTrue (fits e) → AlikeStates R H s t
        → ((x : ℤ) → AlikeOutcomes R H (f x) (g x)) → AlikeOutcomes R H (with_value (in_p e s) s f) (with_value (in_q e t) t g)
    one e s t f g h like same = with_alike R H _ _ s t f g (at e s t h like) like.store same

    two : (e f : Expr) (s : State S) (t : State T) (g : ℤ → ℤ → Outcome S) (k : ℤ → ℤ → Outcome T) → IsTrue (fits e && fits f) → AlikeStates R H s t
        → ((x y : ℤ) → AlikeOutcomes R H (g x y) (k x y)) → AlikeOutcomes R H (with_value (in_p e s) s (λ x. with_value (in_p f s) s (λ y. g x y)))
        (with_value (in_q e t) t (λ x. with_value (in_q f t) t (λ y. k x y)))
    two e f s t g k h like same = one e s t _ _ (and_left _ _ h) like (λ x. one f s t _ _ (and_right (fits e) _ h) like (λ y. same x y))

    try_alike : (y x : ℕ) (k v : ℤ) (s : State S) (t : State T) → IsTrue (may_write params x) → AlikeStates R H s t
        → AlikeOutcomes R H (try_add_action p y x k v (p.has x k s.store) s) (try_add_action q y x k v (q.has x k t.store) t)
    try_alike y x k v s t may like =
        subst (λ b. AlikeOutcomes R H (try_add_action p y x k v b s) (try_add_action q y x k v (q.has x k t.store) t))
        (sym (sim.has x k s.store t.store like.store)) (cases (q.has x k t.store))
      where
        cases : (b : Bool) → AlikeOutcomes R H (try_add_action p y x k v b s) (try_add_action q y x k v b t)
        cases true = local_alike R H y (pos 0) s t like
        cases false = changes_alike R H _ _ (with_local y (pos 1) s) (with_local y (pos 1) t) (sim.add_pair x k v s.store t.store may like.store)
            (local_alike R H y (pos 1) s t like)

    remove_alike : (y x : ℕ) (k : ℤ) (s : State S) (t : State T) → IsTrue (may_write params x) → AlikeStates R H s t
        → AlikeOutcomes R H (remove_key_action p y x k s) (remove_key_action q y x k t)
    remove_alike y x k s t may like = record {
      steps = like.steps;
      locals = ap (λ l. set l y (one_if (p.has x k s.store))) like.locals ∙ ap (λ b. set t.locals y (one_if b)) (sim.has x k s.store t.store like.store);
      begun = like.begun;
      store = sim.remove_key x k s.store t.store may like.store;
      have = like.have;
    }

  -- ---- `write`, whose index was begun, and `begin`

  abbrev In : List ℕ → List ℤ → Type 0
  In open_ = AreBegun Begun open_

  write_alike : (x : ℕ) (v : ℤ) (open_ : List ℕ) (s : State S) (t : State T) → IsTrue (may_write params x) → IsTrue (member x open_)
      → AlikeStates R (In open_) s t → AlikeOutcomes R (In open_) (changes (p.write x (get_or s.begun x (pos 0)) v s.store) s)
      (changes (q.write x (get_or t.begun x (pos 0)) v t.store) t)
  write_alike x v open_ s t may is like =
      subst (λ b. AlikeOutcomes R (In open_) (changes (p.write x (get_or s.begun x (pos 0)) v s.store) s)
      (changes (q.write x (get_or b x (pos 0)) v t.store) t)) like.begun
      (changes_alike R (In open_) _ _ s t (sim.write x (get_or s.begun x (pos 0)) v s.store t.store may (like.have.1 x is) like.store) like)

  begun_more : (x : ℕ) (i : ℤ) (open_ : List ℕ) (begun : List ℤ) → x < MOST_PARAMS → Begun x i → In open_ begun → In (x ∷ open_) (set begun x i)
  begun_more x i open_ begun below h have = (length-set begun x i ∙ have.0, λ y m. by y m (cases_eq y x))
    where
      later : (y : ℕ) → y ≢ x → IsTrue (nat_eq y x || member y open_) → IsTrue (member y open_)
      later y other_ m = grind (arith, nat_tests)

      by : (y : ℕ) → IsTrue (member y (x ∷ open_)) → (y ≡ x) ⊎ (y ≢ x) → Begun y (get_or (set begun x i) y (pos 0))
      by y m (inl e) = let full = have.0 in subst (λ z. Begun y z) (sym (get_or-set_at begun x y i (pos 0) e (omega arith))) (subst (λ z. Begun z i) (sym e) h)
      by y m (inr other_) = subst (λ z. Begun y z) (sym (get_or-set_other begun x y i (pos 0) other_)) (have.1 y (later y other_ m))

  -- what holds inside a `begin` block holds outside of it
  begun_fewer : (x : ℕ) (open_ : List ℕ) (a : Outcome S) (b : Outcome T) → AlikeOutcomes R (In (x ∷ open_)) a b → AlikeOutcomes R (In open_) a b
  begun_fewer x open_ (Goes s) (Goes t) r = record {
    steps = r.steps;
    locals = r.locals;
    begun = r.begun;
    store = r.store;
    have = (r.have.0, λ y m. r.have.1 y (more y m));
  }
    where
      more : (y : ℕ) → IsTrue (member y open_) → IsTrue (nat_eq y x || member y open_)
      more y m = grind (arith, nat_tests)
  begun_fewer x open_ (Goes s) (Traps u t) r = absurd r
  begun_fewer x open_ (Traps u s) (Goes t) r = absurd r
  begun_fewer x open_ (Traps t s) (Traps u r) e = e

  module _ (few : length params ≤ MOST_PARAMS) where
    begin_alike : (x : ℕ) (i : ℤ) (open_ : List ℕ) (f : Action S) (g : Action T) → IsTrue (meets params x written_stream) → AlikeActions R (In (x ∷ open_)) f g
        → AlikeActions R (In open_) (begin_action p x i f) (begin_action q x i g)
    begin_alike x i open_ f g met same s t like =
        cases (p.begin x i s.store) (q.begin x i t.store) refl (sim.begin x i s.store t.store (written params x written_stream refl met) like.store)
      where
        below : x < MOST_PARAMS
        below = let h = has_param params x written_stream met in omega (arith, h, few)

        cases : (v : Result S Trap) (w : Result T Trap) → p.begin x i s.store ≡ v → AlikeResults R v w
            → AlikeOutcomes R (In open_) (then_do (changes v s) (λ s. f (record s { begun = set s.begun x i })))
            (then_do (changes w t) (λ t. g (record t { begun = set t.begun x i })))
        cases (Ok a) (Ok b) e r = begun_fewer x open_ _ _ (same _ _ (record {
          steps = like.steps;
          locals = like.locals;
          begun = ap (λ l. set l x i) like.begun;
          store = r;
          have = begun_more x i open_ s.begun below (sim.begun x i s.store a e) like.have;
        }))
        cases (Ok a) (Err u) e r = absurd r
        cases (Err u) (Ok b) e r = absurd r
        cases (Err u) (Err v) e r = (r, like.store)

    -- ---- statements

    -- what is shown of a statement, inside `begin` blocks of these streams
    abbrev IsAlike : Stmt → Type 0
    IsAlike s = (open_ : List ℕ) → IsTrue (stmt_fits parallel params count s open_) → AlikeActions R (In open_) (meaning p index s) (meaning q index s)

    abbrev fits_block : List Stmt → List ℕ → Bool
    fits_block body open_ = all_fit (map (stmt_fits parallel params count) body) open_

    block_alike : (body : List ((s : Stmt) × IsAlike s)) (open_ : List ℕ) → IsTrue (fits_block (map (λ e. e.0) body) open_)
        → AlikeActions R (In open_) (in_turn (map (meaning p index) (map (λ e. e.0) body))) (in_turn (map (meaning q index) (map (λ e. e.0) body)))
    block_alike [] open_ h s t like = like
    block_alike (x ∷ more) open_ h s t like =
        then_alike R (In open_) _ _ _ _ (x.1 open_ (and_left _ _ h) s t like) (block_alike more open_ (and_right _ _ h))

    abbrev whole : Stmt-F ((s : Stmt) × IsAlike s) → Stmt-F Stmt
    whole = map-Stmt ((s : Stmt) × IsAlike s) Stmt (λ e. e.0)

    abbrev left : Stmt-F ((s : Stmt) × IsAlike s) → Stmt-F (Action S)
    left z = map-Stmt Stmt (Action S) (meaning p index) (whole z)

    abbrev right : Stmt-F ((s : Stmt) × IsAlike s) → Stmt-F (Action T)
    right z = map-Stmt Stmt (Action T) (meaning q index) (whole z)

    form_alike : (z : Stmt-F ((s : Stmt) × IsAlike s)) (open_ : List ℕ) → IsTrue
        (statement_fits params count fits (map-Stmt Stmt (List ℕ → Bool) (stmt_fits parallel params count) (whole z)) open_)
        → AlikeActions R (In open_) (act_of p in_p (left z)) (act_of q in_q (right z))
    form_alike (Assign k e) open_ h s t like = one _ e s t _ _ (and_right _ _ h) like (λ z. local_alike R (In open_) k z s t like)
    form_alike (SetValue x e) open_ h s t like = one _ e s t _ _ (and_right _ _ h) like
        (λ z. store_alike R (In open_) s t _ _ (sim.set_value x z s.store t.store (written params x written_value refl (and_left _ _ h)) like.store) like)
    form_alike (Store x e f) open_ h s t like = two _ e f s t _ _ (and_right _ _ h) like
        (λ i v. changes_alike R (In open_) _ _ s t (sim.put x i v s.store t.store (written params x written_elements refl (and_left _ _ h)) like.store) like)
    form_alike (Add x e) open_ h s t like = one _ e s t _ _ (and_right _ _ h) like
        (λ v. changes_alike R (In open_) _ _ s t (sim.add x v s.store t.store (written params x written_list refl (and_left _ _ h)) like.store) like)
    form_alike (AddPair x e f) open_ h s t like = two _ e f s t _ _ (and_right _ _ h) like
        (λ k v. changes_alike R (In open_) _ _ s t (sim.add_pair x k v s.store t.store (written params x written_map refl (and_left _ _ h)) like.store) like)
    form_alike (TryAdd y x e f) open_ h s t like = two _ e f s t _ _ (and_right _ _ (and_right _ _ h)) like
        (λ k v. try_alike _ y x k v s t (written params x changed_map refl (and_left _ _ (and_right _ _ h))) like)
    form_alike (RemoveAt x e) open_ h s t like = one _ e s t _ _ (and_right _ _ h) like
        (λ i. changes_alike R (In open_) _ _ s t (sim.remove_at x i s.store t.store (written params x written_list refl (and_left _ _ h)) like.store) like)
    form_alike (RemoveKey y x e) open_ h s t like = one _ e s t _ _ (and_right _ _ (and_right _ _ h)) like
        (λ k. remove_alike _ y x k s t (written params x changed_map refl (and_left _ _ (and_right _ _ h))) like)
    form_alike (Clear x) open_ h s t like = store_alike R (In open_) s t _ _ (sim.clear x s.store t.store h like.store) like
    form_alike (Write x e) open_ h s t like = one _ e s t _ _ (and_right _ _ (and_right _ _ h)) like
        (λ v. write_alike x v open_ s t (written params x written_stream refl (and_left _ _ h)) (and_left _ _ (and_right _ _ h)) like)
    form_alike (Begin x e body) open_ h s t like =
        one _ e s t _ _ (and_left _ _ (and_right _ _ (and_right _ _ h))) like
        (λ i. begin_alike x i open_ _ _ (and_left _ _ h) (block_alike body.items (x ∷ open_)
        (and_right (fits e) _ (and_right (not (member x open_)) _ (and_right (meets params x written_stream) _ h)))) s t like)
    form_alike (If e body other) open_ h s t like =
        one _ e s t _ _ (and_left _ _ h) like (λ z. choose_alike R (In open_) (holds z) _ _ _ _ (block_alike body.items open_ (and_left _ _ (and_right _ _ h)))
        (block_alike other.items open_ (and_right _ _ (and_right _ _ h))) s t like)
    form_alike (For k e f body) open_ h s t like =
        one _ e s t _ _ (and_left _ _ (and_right _ _ h)) like (λ i. one _ f s t _ _ (and_left _ _ (and_right _ _ (and_right _ _ h))) like (λ j.
        turns_alike R (In open_) (count_between i j) k i _ _ (block_alike body.items open_
        (and_right (fits f) _ (and_right (fits e) _ (and_right (nat_lt k count) _ h)))) s t like))
    form_alike (While e body) open_ h s t like =
        subst (λ n. AlikeOutcomes R (In open_) (turns_while s.steps (in_p e) (in_turn (map (meaning p index) (map (λ e. e.0) body.items))) s)
        (turns_while n (in_q e) (in_turn (map (meaning q index) (map (λ e. e.0) body.items))) t)) like.steps
        (while_alike R (In open_) s.steps (in_p e) (in_q e) _ _ (λ s t like. at _ e s t (and_left _ _ h) like)
        (block_alike body.items open_ (and_right _ _ h)) s t like)

    at_roll : (z : Stmt-F ((s : Stmt) × IsAlike s)) → IsAlike (roll-Stmt (whole z))
    at_roll z open_ h =
        rw (fold-roll-Stmt (Action S) (statement p index) (whole z), fold-roll-Stmt (Action T) (statement q index) (whole z))
        (spend_alike R (In open_) _ _ (form_alike z open_ (rw (fold-roll-Stmt (List ℕ → Bool) (statement_fits params count fits) (whole z)) at h)))

    statement_alike : (s : Stmt) → IsAlike s
    statement_alike = ind-Stmt IsAlike (λ x y is. subst (λ z. IsAlike (roll-Stmt z)) is (at_roll y))

    pub body_alike : (body : List Stmt) (open_ : List ℕ) → IsTrue (fits_block body open_)
        → AlikeActions R (In open_) (body_meaning p index body) (body_meaning q index body)
    body_alike [] open_ h s t like = like
    body_alike (x ∷ more) open_ h s t like = then_alike R (In open_) _ _ _ _ (statement_alike x open_ (and_left _ _ h) s t like)
        (body_alike more open_ (and_right _ _ h))

ends_alike : {S T : Type 0} (R : S → T → Type 0) (H : List ℤ → Type 0) (o : Outcome S) (p : Outcome T) → AlikeOutcomes R H o p → AlikeEnds R o p
ends_alike R H (Goes s) (Goes t) r = record { trap = refl; store = r.store }
ends_alike R H (Goes s) (Traps u t) r = absurd r
ends_alike R H (Traps u s) (Goes t) r = absurd r
ends_alike R H (Traps t s) (Traps u r) e = record { trap = ap (λ t. Some t) e.0; store = e.1 }

-- a job: the same traps, and what the arguments are kept in stays related
pub record AlikeRuns {S T : Type 0} (R : S → T → Type 0) (a : Ran S) (b : Ran T) : Type 0 where
  pub store : R a.store b.store
  pub traps : a.traps ≡ b.traps

module _ {S T : Type 0} (R : S → T → Type 0) where
  indexes_alike : (f : ℕ → S → Outcome S) (g : ℕ → T → Outcome T) → ((index : ℕ) (s : S) (t : T) → R s t → AlikeEnds R (f index s) (g index t))
      → (n index : ℕ) (s : S) (t : T) → R s t → AlikeRuns R (indexes f n index s) (indexes g n index t)
  indexes_alike f g same zero index s t r = record { store = r; traps = refl }
  indexes_alike f g same (suc n) index s t r =
      let ends = same index s t r in
      let rest = indexes_alike f g same n (index + 1) (store_after (f index s)) (store_after (g index t)) ends.store in
      record {
        store = rest.store;
        traps = ap (λ o. trap_at index o ++ (indexes f n (index + 1) (store_after (f index s))).traps) ends.trap
            ∙ ap (λ ts. trap_at index (trap_after (g index t)) ++ ts) rest.traps;
      }

module _ {S T : Type 0} (R : S → T → Type 0) (kernel : Kernel) (is : IsChecked kernel) (Begun : ℕ → ℤ → Type 0) where
  -- an Execute of a checked kernel, which begins in no `begin` block
  pub execution_alike : (p : Operations S) (q : Operations T) → Simulates R kernel.params.items Begun p q → (steps index : ℕ) (s : S) (t : T) → R s t
      → AlikeEnds R (execution p kernel.body.statements.items steps index s) (execution q kernel.body.statements.items steps index t)
  unfolding fresh
  execution_alike p q sim steps index s t r =
      ends_alike R (AreBegun Begun []) _ _
      (body_alike R kernel.parallel kernel.params.items kernel.locals Begun p q sim index few kernel.body.statements.items [] is.fits (fresh steps s)
      (fresh steps t) (record {
        steps = refl;
        locals = refl;
        begun = refl;
        store = r;
        have = (refl, λ x m. cc);
      }))
    where
      few : length kernel.params.items ≤ MOST_PARAMS
      few = let h = is.count in grind (arith, nat_tests, h)

  pub job_alike : (p : ℕ → Operations S) (q : ℕ → Operations T) → ((index : ℕ) → Simulates R kernel.params.items Begun (p index) (q index))
      → (steps n : ℕ) (s : S) (t : T) → R s t → AlikeRuns R (job_run p kernel.parallel kernel.body.statements.items steps n s)
      (job_run q kernel.parallel kernel.body.statements.items steps n t)
  job_alike p q sim steps n s t r =
      indexes_alike R (λ index s. execution (p index) kernel.body.statements.items steps index s)
      (λ index t. execution (q index) kernel.body.statements.items steps index t)
      (λ index s t r. execution_alike (p index) (q index) (sim index) steps index s t r) (executes kernel.parallel n) 0 s t r

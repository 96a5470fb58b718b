-- What a kernel does: one Execute of its body, statement after statement.
--
-- Decided here is in which order things happen in a kernel: what is evaluated when, where a step is spent, and what
-- stays where a statement traps. Arguments are kept in any way that gives the operations of `Expressions`; `Arguments`,
-- which comes next, keeps them as contents and has the own-index rule. How often a kernel is executed, at which indexes
-- and with how many steps is a matter of `JobRuns`.
use Rattle.std.specs.Prelude.{ℕ, zero, suc, Bool, true, false, ℤ, pos, negsuc, ◌+ℤ◌, ◌-ℤ◌, List, [], ◌∷◌, map, get_or, set, Option, Some, None, Result, Ok, Err, replicate}
use Rattle.job_base.specs.declared.Trap.{Trap}
use Rattle.job_base.specs.declared.limits.TheConstants.{MOST_LOCALS, MOST_PARAMS}
use Rattle.job_base.specs.declared.Trap.TheVariants.{Budget}
use Rattle.frame_ast.specs.declared.kernel.Expr.{Expr}
use Rattle.frame_ast.specs.declared.kernel.Stmt.{Stmt}
use Rattle.frame_ast.specs.declared.kernel.Stmt.TheOpen.{Stmt-F, Assign, SetValue, Store, Add, AddPair, TryAdd, RemoveAt, RemoveKey, Clear, Write, Begin, If, For, While}
use Rattle.frame_ast.specs.declared.kernel.Stmt.TheFolds.{fold-Stmt}
use Rattle.frame_ast.specs.Expressions.{Operations, holds, one_if, value_of}

-- the state between two statements
pub record State (S : Type 0) : Type 0 where
  -- how many steps are left
  pub steps : ℕ
  -- the values of locals, by their numbers
  pub locals : List ℤ
  -- the index that each parameter has begun last, by its number; only a stream begins one, and `write` goes to it
  pub begun : List ℤ
  -- what the arguments are kept in
  pub store : S

-- how a run ends; stores before a trap stay
pub data Outcome (S : Type 0) : Type 0 where
  Goes : State S → Outcome S
  Traps : Trap → S → Outcome S

abbrev pub Action : Type 0 → Type 0
Action S = State S → Outcome S

-- goes on from where a run went
abbrev pub then_do : {S : Type 0} → Outcome S → Action S → Outcome S
then_do (Goes s) go = go s
then_do (Traps t s) go = Traps t s

-- goes on with a value, or traps
abbrev pub with_value : {A S : Type 0} → Result A Trap → State S → (A → Outcome S) → Outcome S
with_value (Ok x) s go = go x
with_value (Err t) s go = Traps t s.store

-- goes on with the arguments changed, or traps
abbrev pub changes : {S : Type 0} → Result S Trap → State S → Outcome S
changes (Ok store) s = Goes (record s { store = store })
changes (Err t) s = Traps t s.store

-- one step is spent, and where none is left that is a trap
abbrev pub spend_from : {S : Type 0} → ℕ → State S → Action S → Outcome S
spend_from zero s go = Traps Budget s.store
spend_from (suc n) s go = go (record s { steps = n })

abbrev pub spend : {S : Type 0} → State S → Action S → Outcome S
spend s go = spend_from s.steps s go

-- the state with a number in a local
abbrev pub with_local : {S : Type 0} → ℕ → ℤ → State S → State S
with_local k z s = record s { locals = set s.locals k z }

-- one of two actions
abbrev pub choose : {S : Type 0} → Bool → Action S → Action S → Action S
choose true a b s = a s
choose false a b s = b s

-- one after another
abbrev pub in_turn : {S : Type 0} → List (Action S) → Action S
in_turn [] s = Goes s
in_turn (a ∷ more) s = then_do (a s) (in_turn more)

-- how many numbers there are from a up to b, without b
abbrev pub nat_of : ℤ → ℕ
nat_of (pos n) = n
nat_of (negsuc n) = 0

abbrev pub count_between : ℤ → ℤ → ℕ
count_between a b = nat_of (b -ℤ a)

-- as many turns, each with the next number in local k; a step is spent before each test, the last one included
abbrev pub turns : {S : Type 0} → ℕ → ℕ → ℤ → Action S → Action S
turns zero k i body s = spend s (λ s. Goes s)
turns (suc n) k i body s =
    spend s (λ s. then_do (body (with_local k i s)) (turns n k (i +ℤ pos 1) body))

-- Turns as long as the test holds. The number only bounds the recursion: each turn spends a step at least, so the steps
-- run out first.
abbrev pub turns_while : {S : Type 0} → ℕ → (State S → Result ℤ Trap) → Action S → Action S
turns_while zero test body s = Traps Budget s.store
turns_while (suc n) test body s =
    spend s (λ s. with_value (test s) s (λ z.
    choose (holds z) (λ s. then_do (body s) (turns_while n test body)) (λ s. Goes s) s))

-- What each form does once its step is spent. `eval` gives the value of an expression in a state.

abbrev pub Eval : Type 0 → Type 0
Eval S = Expr → State S → Result ℤ Trap

-- `y = try_add(m, e, f)`: 0 where the key is present, else 1
abbrev pub try_add_action : {S : Type 0} → Operations S → ℕ → ℕ → ℤ → ℤ → Bool → Action S
try_add_action operations y x k v true s = Goes (with_local y (pos 0) s)
try_add_action operations y x k v false s = changes (operations.add_pair x k v s.store) (with_local y (pos 1) s)

-- `y = remove(m, e)`
abbrev pub remove_key_action : {S : Type 0} → Operations S → ℕ → ℕ → ℤ → Action S
remove_key_action operations y x k s =
    let was_there = one_if (operations.has x k s.store) in
    Goes (record s { locals = set s.locals y was_there; store = operations.remove_key x k s.store })

-- `begin s[e] { .. }`
abbrev pub begin_action : {S : Type 0} → Operations S → ℕ → ℤ → Action S → Action S
begin_action operations x i body s =
    then_do (changes (operations.begin x i s.store) s) (λ s. body (record s { begun = set s.begun x i }))

-- `for k in e..f { .. }`
abbrev pub for_action : {S : Type 0} → Eval S → ℕ → Expr → Expr → Action S → Action S
for_action eval k e f body s =
    with_value (eval e s) s (λ a. with_value (eval f s) s (λ b. turns (count_between a b) k a body s))

-- one statement, with the meanings of those in its blocks
abbrev pub act_of : {S : Type 0} → Operations S → Eval S → Stmt-F (Action S) → Action S
act_of operations eval (Assign k e) s = with_value (eval e s) s (λ z. Goes (with_local k z s))
act_of operations eval (SetValue x e) s =
    with_value (eval e s) s (λ z. Goes (record s { store = operations.set_value x z s.store }))
act_of operations eval (Store x e f) s =
    with_value (eval e s) s (λ i. with_value (eval f s) s (λ v. changes (operations.put x i v s.store) s))
act_of operations eval (Add x e) s = with_value (eval e s) s (λ v. changes (operations.add x v s.store) s)
act_of operations eval (AddPair x e f) s =
    with_value (eval e s) s (λ k. with_value (eval f s) s (λ v. changes (operations.add_pair x k v s.store) s))
act_of operations eval (TryAdd y x e f) s =
    with_value (eval e s) s (λ k. with_value (eval f s) s (λ v.
    try_add_action operations y x k v (operations.has x k s.store) s))
act_of operations eval (RemoveAt x e) s = with_value (eval e s) s (λ i. changes (operations.remove_at x i s.store) s)
act_of operations eval (RemoveKey y x e) s = with_value (eval e s) s (λ k. remove_key_action operations y x k s)
act_of operations eval (Clear x) s = Goes (record s { store = operations.clear x s.store })
act_of operations eval (Write x e) s =
    with_value (eval e s) s (λ v. changes (operations.write x (get_or s.begun x (pos 0)) v s.store) s)
act_of operations eval (Begin x e body) s =
    with_value (eval e s) s (λ i. begin_action operations x i (in_turn body.items) s)
act_of operations eval (If e body other) s =
    with_value (eval e s) s (λ z. choose (holds z) (in_turn body.items) (in_turn other.items) s)
act_of operations eval (For k e f body) s = for_action eval k e f (in_turn body.items) s
act_of operations eval (While e body) s = turns_while s.steps (eval e) (in_turn body.items) s

-- a step is spent before each statement
abbrev pub statement : {S : Type 0} → Operations S → ℕ → Stmt-F (Action S) → Action S
statement operations index layer s =
    spend s (act_of operations (λ e s. value_of operations index e s.locals s.store) layer)

abbrev pub meaning : {S : Type 0} → Operations S → ℕ → Stmt → Action S
meaning {S} operations index = fold-Stmt (Action S) (statement operations index)

-- a body, statement by statement
abbrev pub body_meaning : {S : Type 0} → Operations S → ℕ → List Stmt → Action S
body_meaning operations index body = in_turn (map (meaning operations index) body)

-- Before an Execute: each of the locals that a kernel can have is 0, and no stream has begun an index.
unfoldable pub fresh : {S : Type 0} → ℕ → S → State S
fresh steps s = record {
  steps = steps;
  locals = replicate MOST_LOCALS (pos 0);
  begun = replicate MOST_PARAMS (pos 0);
  store = s;
}

abbrev pub store_after : {S : Type 0} → Outcome S → S
store_after (Goes s) = s.store
store_after (Traps t s) = s

abbrev pub trap_after : {S : Type 0} → Outcome S → Option Trap
trap_after (Goes s) = None
trap_after (Traps t s) = Some t

-- an Execute with that many steps, at an index
abbrev pub execution : {S : Type 0} → Operations S → List Stmt → ℕ → ℕ → S → Outcome S
execution operations body steps index s = body_meaning operations index body (fresh steps s)

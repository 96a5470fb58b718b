-- The job that a refusal names is the greatest blocker; and what that says of the words of a container that is disposed.
use Rattle.std.proofs.Common.{◌≡◌, ap, ℕ, zero, suc, ◌<◌, ◌≤◌, ⊎_elim, Bool, true, false, ◌&&◌, ◌||◌, List, [], ◌∷◌, Option, None, Some, refl, sym, subst, arith}
use Rattle.std.specs.Prelude.{not, nat_eq, nat_lt, if◌then◌else◌}
use Rattle.std.proofs.lemmas.Bool.{or_left, or_right, or_cases, or_from, and_parts, and_from, and_right, eq-eqb, cases_eq, not-true, not_from_false, both_ways, false_from_ne_true, cond-true}
use Rattle.frame_ast.specs.Jobs.{Jobs, ancestors_in, happens_before, greatest, any_job, Book}
use Rattle.frame_ast.specs.Conflicts.{Uses, Need, conflicts, blockers, blocking, name_in_conflict, has_pending}
use Rattle.frame_ast.specs.States.{ScriptState, container_at, with_at}
use Rattle.frame_ast.specs.Schedules.{need_of}
use Rattle.frame_ast.specs.Lists.{first_some}
use Rattle.frame_ast.specs.Refusals.{Refused, disposed, jobs_named, pending_on, pending}
use Rattle.frame_ast.specs.Laws.{AreUpTo, AreUses, IsFirstInConflict, GreatestIsNamed, GreatestBlockerIsNamed, WordsComeBack}
use Rattle.frame_ast.proofs.Ancestry.{least, greatest_in, greatest_above, greatest_none}

-- the first need in conflict, where one of them blocks
first_in_conflict : (b : Book) (uses : ℕ → Uses) (after : Jobs) (needs : List Need) (j : ℕ) → blocking b uses after needs j ≡ true
    → IsFirstInConflict uses needs j (name_in_conflict uses needs j)
first_in_conflict b uses after [] j e = absurd (both_ways false refl e)
first_in_conflict b uses after (n ∷ more) j e =
    elim (conflicts (uses n.container) n.writes j) as (λ c. conflicts (uses n.container) n.writes j ≡ c
    → IsFirstInConflict uses (n ∷ more) j (if c then n.name else name_in_conflict uses more j)) [
      | true ↦ λ here. record { before = []; need = n; more = more; split = refl; named = refl; conflict = here; earlier = refl }
      | false ↦ λ here.
          let rest = first_in_conflict b uses after more j (⊎_elim (λ t. absurd
          (both_ways _ here (and_parts (conflicts (uses n.container) n.writes j) (not (happens_before b after j)) t).0)) (λ t. t)
          (or_cases (blockers b (uses n.container) after n.writes j) (blocking b uses after more j) e)) in
          record {
            before = n ∷ rest.before;
            need = rest.need;
            more = rest.more;
            split = ap (λ xs. n ∷ xs) rest.split;
            named = rest.named;
            conflict = rest.conflict;
            earlier = or_from (conflicts (uses n.container) n.writes j) _ here rest.earlier;
          }
    ] refl

named_at : (s : ScriptState) (after : Jobs) (needs : List Need) (n : ℕ) → greatest (blocking s.book s.uses after needs) s.book.count ≡ n
    → GreatestIsNamed s after needs (pending_on s.uses needs n)
named_at s after needs zero e = λ j low high. greatest_none (blocking s.book s.uses after needs) s.book.count e j low high
named_at s after needs (suc m) e =
    let set : Jobs = blocking s.book s.uses after needs in
    let blocks : set (suc m) ≡ true = subst (λ x. set x ≡ true) e (greatest_in set s.book.count (subst (λ x. 0 < x) (sym e) (omega arith))) in
    record {
      job = suc m;
      cause = refl;
      blocks = blocks;
      greatest = λ k high t. subst (λ x. k ≤ x) e (greatest_above set s.book.count k high t);
      first = first_in_conflict s.book s.uses after needs (suc m) blocks;
    }

pub greatest_blocker_is_named : GreatestBlockerIsNamed
greatest_blocker_is_named s after needs =
    named_at s after needs (greatest (blocking s.book s.uses after needs) s.book.count) refl

-- a job of the set, where there is one
pub any_from : (set : Jobs) (n j : ℕ) → 0 < j → j ≤ n → set j ≡ true → any_job set n ≡ true
any_from set n j low high t =
    let up = greatest_above set n j high t in
    not_from_false (nat_eq (greatest set n) 0) (false_from_ne_true (nat_eq (greatest set n) 0)
    (λ e. let z : greatest set n ≡ 0 = Rattle.std.proofs.lemmas.Bool.eqb-true (greatest set n) 0 e in absurd (omega arith)))

pub some_job : (set : Jobs) (n : ℕ) → any_job set n ≡ true → (j : ℕ) × ((0 < j) × (j ≤ n)) × (set j ≡ true)
some_job set n t =
    let ne = Rattle.std.proofs.lemmas.Bool.eqb-false (greatest set n) 0 (not-true (nat_eq (greatest set n) 0) t) in
    let low : 0 < greatest set n = ⊎_elim (λ z. absurd (ne z)) (λ f. omega arith) (cases_eq (greatest set n) 0) in
    (greatest set n, (low, Rattle.frame_ast.proofs.Ancestry.greatest_below set n), greatest_in set n low)

-- who blocks is a user
pub conflict_uses : (b : Book) (u : Uses) → AreUses b u → (writes : Bool) (j : ℕ) → conflicts u writes j ≡ true → u.users j ≡ true
conflict_uses b u known writes j e =
    ⊎_elim (λ t. known.writers j t) (λ t. (and_parts writes (u.users j) t).1) (or_cases (u.writers j) (writes && u.users j) e)

pub blocking_among : (b : Book) (uses : ℕ → Uses) → ((c : ℕ) → AreUses b (uses c)) → (after : Jobs) (needs : List Need)
    → AreUpTo b.count (blocking b uses after needs)
blocking_among b uses known after [] j e = absurd (both_ways false refl e)
blocking_among b uses known after (n ∷ more) j e = ⊎_elim
    (λ t. let u = uses n.container in
    (known n.container).users j (conflict_uses b u (known n.container) n.writes j (and_parts (conflicts u n.writes j) (not (happens_before b after j)) t).0))
    (λ t. blocking_among b uses known after more j t)
    (or_cases (blockers b (uses n.container) after n.writes j) (blocking b uses after more j) e)

-- nothing leads to nothing
no_ancestor : (b : Book) (given : Jobs) → ((j : ℕ) → given j ≡ false) → (j : ℕ) → ancestors_in b given j ≡ false
no_ancestor b given none j = false_from_ne_true (ancestors_in b given j)
    (λ t. least b.deps (λ i. ⊥) (λ i k h d. h) b.count given (λ i e. both_ways (given i) (none i) e) j t)

no_cause : (a c : Option Refused) → first_some (a ∷ c ∷ []) ≡ None → c ≡ None
unfolding first_some
no_cause None None e = refl
no_cause None (Some r) e = e
no_cause (Some r) c e = absurd cc

unblocked : (s : ScriptState) (name : ℕ) → pending s (jobs_named s []) (need_of s name true ∷ []) ≡ None
    → has_pending s.book (s.uses (container_at s name)) ≡ false
unblocked s name e = false_from_ne_true (has_pending s.book u) (λ t.
    let j = some_job (λ j. u.users j && not (s.book.completed j)) s.book.count t in
    let parts = and_parts (u.users j.0) (not (s.book.completed j.0)) j.2 in
    let quiet : not (happens_before s.book (jobs_named s []) j.0) ≡ true =
    not_from_false (happens_before s.book (jobs_named s []) j.0) (or_from (s.book.completed j.0) (ancestors_in s.book (jobs_named s []) j.0)
    (not-true (s.book.completed j.0) parts.1) (no_ancestor s.book (jobs_named s []) (λ k. refl) j.0)) in
    let blocks : blocking s.book s.uses (jobs_named s []) (need_of s name true ∷ []) j.0 ≡ true =
    or_left (blockers s.book u (jobs_named s []) true j.0) false (and_from (conflicts u true j.0) (not (happens_before s.book (jobs_named s []) j.0))
    (or_right (u.writers j.0) (u.users j.0) parts.0) quiet) in
    both_ways (blocking s.book s.uses (jobs_named s []) (need_of s name true ∷ []) j.0)
    (subst (λ r. GreatestIsNamed s (jobs_named s []) (need_of s name true ∷ []) r) e
    (greatest_blocker_is_named s (jobs_named s []) (need_of s name true ∷ [])) j.0 j.1.0 j.1.1) blocks)
  where
    u : Uses
    u = s.uses (container_at s name)

pub words_come_back : WordsComeBack
words_come_back g line s name after none e =
    let c = container_at s name in
    and_right (nat_lt c s.made) (with_at s.alive c false c || has_pending s.book (s.uses c))
    (or_from (with_at s.alive c false c) (has_pending s.book (s.uses c))
    (cond-true (nat_eq c c) false (s.alive c) (eq-eqb c c refl))
    (unblocked s name (no_cause (disposed s (name ∷ [])) (pending s (jobs_named s []) (need_of s name true ∷ []))
    (subst (λ xs. first_some (disposed s (name ∷ []) ∷ pending s (jobs_named s xs) (need_of s name true ∷ []) ∷ []) ≡ None) none e))))

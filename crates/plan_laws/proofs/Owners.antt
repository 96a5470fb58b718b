-- Who has a word.
use Rattle.std.proofs.Common.{◌≡◌, ℕ, zero, suc, ◌+◌, ◌<◌, ◌≤◌, Bool, true, false, ◌&&◌, refl, ap, ◌∙◌, arith}
use Rattle.std.specs.Prelude.{nat_le, nat_lt}
use Rattle.frame_ast.specs.Contents.{Contents, Cells as Elements, Single, Items, Pairs, Entries, words_of}
use Rattle.frame_ast.specs.Ranges.{Starts, has_word}
use Rattle.frame_ast.specs.States.{ScriptState, is_live}
use Rattle.native_map.specs.Table.{places}
use Rattle.kernel_exec.specs.Binds.{start_of, end_of, IsWordOf}
use Rattle.merge_laws.specs.Ledger.{IsLedger}
use Rattle.frame_core.specs.declared.plan.Plan.{Plan}
use Rattle.plan_laws.specs.Binds.{bind_of, bind_of_container}
use Rattle.frame_core.specs.Pieces.{own_word}
use Rattle.frame_core.specs.Names.{job_at}
use Rattle.frame_core.specs.Output.{pieces_in}
use Rattle.frame_core.proofs.Small.{not_both}
use Rattle.plan_laws.specs.Ledgers.{Owner, Held, Own, is_own_word, owner, next_owner, number_of, owner_live, owner_words, ledger_of}

pub owner_held : (c : ℕ) → owner (number_of (Held c)) ≡ Held c
owner_held zero = refl
owner_held (suc c) = let e : suc c + suc c ≡ suc (suc (c + c)) = omega arith in ap owner e ∙ ap next_owner (owner_held c)

pub owner_own : (j : ℕ) → owner (number_of (Own j)) ≡ Own j
owner_own zero = refl
owner_own (suc j) = let e : suc (suc j + suc j) ≡ suc (suc (suc (j + j))) = omega arith in ap owner e ∙ ap next_owner (owner_own j)

pub number_owner : (n : ℕ) → number_of (owner n) ≡ n
number_owner zero = refl
number_owner (suc zero) = refl
number_owner (suc (suc n)) = by (owner n) ∙ ap (λ k. suc (suc k)) (number_owner n)
  where
    by : (o : Owner) → number_of (next_owner o) ≡ suc (suc (number_of o))
    by (Held c) = omega arith
    by (Own j) = omega arith

pub held_once : (c d : ℕ) → number_of (Held c) ≡ number_of (Held d) → c ≡ d
held_once c d e = omega arith

-- a range has the words of its bind
pub start_is : (start : ℕ) (c : Contents) → start_of (bind_of start c) ≡ start
start_is start (Elements xs) = refl
start_is start (Single z) = refl
start_is start (Items cap xs) = refl
start_is start (Pairs cap ps) = refl
start_is start (Entries room es) = refl

pub end_is : (start : ℕ) (c : Contents) → end_of (bind_of start c) ≡ start + words_of c
unfolding places
end_is start (Elements xs) = refl
end_is start (Single z) = refl
end_is start (Items cap xs) = refl
end_is start (Pairs cap ps) = omega arith
end_is start (Entries room es) = refl

pub word_has : (starts : Starts) (s : ScriptState) (c w : ℕ) → IsWordOf (bind_of_container starts s c) w → has_word starts s c w ≡ true
word_has starts s c w u =
    let a = u.from in
    let b = u.below in
    let e = start_is (starts (s.range c)) (s.contents c) in
    let f = end_is (starts (s.range c)) (s.contents c) in
    by (omega arith) (omega arith)
  where
    by : starts (s.range c) ≤ w → w < starts (s.range c) + words_of (s.contents c) → has_word starts s c w ≡ true
    by lo hi = grind arith

pub has_is_word : (starts : Starts) (s : ScriptState) (c w : ℕ) → has_word starts s c w ≡ true → IsWordOf (bind_of_container starts s c) w
has_is_word starts s c w h =
    let e = start_is (starts (s.range c)) (s.contents c) in
    let f = end_is (starts (s.range c)) (s.contents c) in
    let b : (starts (s.range c) ≤ w) × (w < starts (s.range c) + words_of (s.contents c)) = both h in
    record { from = let lo = b.0 in omega arith; below = let hi = b.1 in omega arith }
  where
    both : has_word starts s c w ≡ true → (starts (s.range c) ≤ w) × (w < starts (s.range c) + words_of (s.contents c))
    both h = (grind arith, grind arith)

-- no word is of two live containers
pub words_apart : (plan : Plan) (starts : Starts) (before n : ℕ) (s : ScriptState) → IsLedger (ledger_of plan starts before n s) → (c d w : ℕ)
    → is_live s c ≡ true → is_live s d ≡ true → has_word starts s c w ≡ true → has_word starts s d w ≡ true → c ≡ d
words_apart plan starts before n s l c d w lc ld hc hd =
    held_once c d (l.apart (number_of (Held c)) (number_of (Held d)) w
    (ap (owner_live s n) (owner_held c) ∙ lc) (ap (owner_live s n) (owner_held d) ∙ ld)
    (ap (λ o. owner_words plan starts s o w) (owner_held c) ∙ hc) (ap (λ o. owner_words plan starts s o w) (owner_held d) ∙ hd))

-- own words lie behind all containers
pub own_above : (plan : Plan) (j w : ℕ) → is_own_word plan j w ≡ true → plan.cells ≤ w
own_above plan zero w e = absurd (not_both e refl)
own_above plan (suc j) w e = let lo = first (nat_le (own_word plan j 0) w) (nat_lt w (own_word plan j (pieces_in (job_at plan j)))) e in above lo
  where
    first : (a b : Bool) → (a && b) ≡ true → a ≡ true
    first true b e = refl
    first false b e = absurd (not_both e refl)

    above : nat_le (own_word plan j 0) w ≡ true → plan.cells ≤ w
    above lo = let le : own_word plan j 0 ≤ w = grind arith in omega arith

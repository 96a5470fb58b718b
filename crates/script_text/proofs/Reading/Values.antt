-- The values that events say, where their events end, and how many there are.
use Rattle.std.proofs.Common.{◌≡◌, ℕ, suc, ◌+◌, ◌≤◌, Bool, true, false, List, [], ◌∷◌, ◌++◌, length, length-append, drop, refl, sym, ◌∙◌, ap, arith, append_assoc, if◌then◌else◌}
use Rattle.std.proofs.lemmas.List.{drop_all}
use Rattle.frame_grammar.specs.declared.symbols.Action.{Action}
use Rattle.frame_grammar.specs.declared.symbols.Action.TheVariants as action
use Rattle.frame_grammar.specs.declared.symbols.Event.{Event}
use Rattle.kernel_raw.specs.RawEvents.{on}
use Rattle.script_text.specs.declared.raw.RawNumber.{RawNumber}
use Rattle.script_text.specs.Events.{SpellsSigned, minus, plain, SpellsNumbers, none, also}
use Rattle.script_text.specs.Raw.{number_after, signed_by, signed_from, values_of}
use Rattle.script_text.specs.Reading.{ends_number, closes_values, values_len}

-- the events that spell a signed number say it, whatever comes behind them
signed_said : {events : List Event} {n : RawNumber} → SpellsSigned events n → (at : ℕ) (rest : List Event)
    → signed_from at (events ++ rest) ≡ n ∷ signed_from n.at rest
signed_said (minus {at = number} o q e) at rest = ap (λ x. signed_from at (x ++ rest)) e
signed_said (plain {at = number} q e) at rest = ap (λ x. signed_from at (x ++ rest)) e

pub numbers_said : {events : List Event} {numbers : List RawNumber} → SpellsNumbers events numbers → (at : ℕ) → signed_from at events ≡ numbers
numbers_said (none e) at = ap (signed_from at) e
numbers_said (also es rest {n} s more e) at =
    ap (signed_from at) e ∙ signed_said s at rest ∙ ap (λ x. n ∷ x) (numbers_said more n.at)

-- none of them closes the values of an array

signed_within : {events : List Event} {n : RawNumber} → SpellsSigned events n → (rest : List Event)
    → values_len (events ++ rest) ≡ length events + values_len rest
signed_within (minus {at = number} o q e) rest =
    ap (λ x. values_len (x ++ rest)) e ∙ three (values_len rest) ∙ ap (λ x. length x + values_len rest) (sym e)
  where
    three : (n : ℕ) → n + 1 + 1 + 1 ≡ 3 + n
    three n = omega arith
signed_within (plain {at = number} q e) rest =
    ap (λ x. values_len (x ++ rest)) e ∙ two (values_len rest) ∙ ap (λ x. length x + values_len rest) (sym e)
  where
    two : (n : ℕ) → n + 1 + 1 ≡ 2 + n
    two n = omega arith

numbers_within : {events : List Event} {numbers : List RawNumber} → SpellsNumbers events numbers → (rest : List Event)
    → values_len (events ++ rest) ≡ length events + values_len rest
numbers_within (none e) rest = ap (λ x. values_len (x ++ rest)) e ∙ no_more (values_len rest) ∙ ap (λ x. length x + values_len rest) (sym e)
  where
    no_more : (n : ℕ) → n ≡ 0 + n
    no_more n = omega arith
numbers_within (also es es' s more e) rest =
    ap (λ x. values_len (x ++ rest)) e
    ∙ ap values_len (append_assoc es es' rest)
    ∙ signed_within s (es' ++ rest)
    ∙ ap (λ k. length es + k) (numbers_within more rest)
    ∙ sum (length es) (length es') (values_len rest)
    ∙ ap (λ k. k + values_len rest) (sym (length-append es es'))
    ∙ ap (λ x. length x + values_len rest) (sym e)
  where
    sum : (a b c : ℕ) → a + (b + c) ≡ a + b + c
    sum a b c = omega arith

-- so the first that does stands behind them
pub values_end : {events : List Event} {numbers : List RawNumber} → SpellsNumbers events numbers → (q : ℕ) (rest : List Event) →
    values_len (events ++ on action.CloseValues q ∷ rest) ≡ length events
values_end {events} s q rest = numbers_within s (on action.CloseValues q ∷ rest) ∙ none_more (length events)
  where
    none_more : (n : ℕ) → n + 0 ≡ n
    none_more n = omega arith

-- they are among the events
pub values_most : (es : List Event) → values_len es ≤ length es
values_most [] = omega arith
values_most (e ∷ es) = by_close (closes_values e.action) (values_len es) (length es) (values_most es)
  where
    by_close : (b : Bool) (n k : ℕ) → n ≤ k → (if b then 0 else n + 1) ≤ suc k
    by_close true n k h = omega arith
    by_close false n k h = omega arith

-- FINDING THE END

-- past an event that doesn't close them
pub open_on : (all : List Event) (i : ℕ) (e : Event) → drop i all ≡ e ∷ drop (i + 1) all → closes_values e.action ≡ false
    → i + values_len (drop i all) ≡ values_len all →
    i + 1 + values_len (drop (i + 1) all) ≡ values_len all
open_on all i e next shut sum =
    let more = values_len (drop (i + 1) all) in
    let one : values_len (drop i all) ≡ more + 1 = ap values_len next ∙ ap (λ b. if b then 0 else more + 1) shut in
    omega arith

-- at the one that closes them
pub closed_here : (all : List Event) (i : ℕ) (e : Event) → drop i all ≡ e ∷ drop (i + 1) all → closes_values e.action ≡ true
    → i + values_len (drop i all) ≡ values_len all →
    i ≡ values_len all
closed_here all i e next closed sum =
    let more = values_len (drop (i + 1) all) in
    let one : values_len (drop i all) ≡ 0 = ap values_len next ∙ ap (λ b. if b then 0 else more + 1) closed in
    omega arith

-- where none does
pub never_closed : (all : List Event) (i n : ℕ) → length all ≤ i → n ≡ length all → i + values_len (drop i all) ≡ values_len all → n ≡ values_len all
never_closed all i n out is sum =
    let one : values_len (drop i all) ≡ 0 = ap values_len (drop_all i all out) in
    let most : values_len all ≤ length all = values_most all in
    omega arith

-- COUNTING

ends_one : (a : Action) (at : ℕ) → length (signed_by a at) ≡ (if ends_number a then 1 else 0)
ends_one action.MinusNumber at = refl
ends_one action.PlainNumber at = refl
ends_one _ at = refl

-- how many there are doesn't depend on where their Numbers stand
as_many : (es : List Event) (at at' : ℕ) → length (signed_from at es) ≡ length (signed_from at' es)
as_many [] at at' = refl
as_many (e ∷ es) at at' =
    let more = signed_from (number_after e.action e.place at) es in
    let more' = signed_from (number_after e.action e.place at') es in
    length-append (signed_by e.action at) more
    ∙ ap (λ k. k + length more) (ends_one e.action at ∙ sym (ends_one e.action at'))
    ∙ ap (λ k. length (signed_by e.action at') + k) (as_many es (number_after e.action e.place at) (number_after e.action e.place at'))
    ∙ sym (length-append (signed_by e.action at') more')

pub counted_on : (all : List Event) (i count : ℕ) (e : Event) (ends : Bool) → drop i all ≡ e ∷ drop (i + 1) all → ends_number e.action ≡ ends →
    count + length (signed_from 0 (drop i all)) ≡ length (values_of all) →
    count + (if ends then 1 else 0) + length (signed_from 0 (drop (i + 1) all)) ≡ length (values_of all)
counted_on all i count e ends next is sum =
    let more = drop (i + 1) all in
    let after = number_after e.action e.place 0 in
    let k : ℕ = if ends then 1 else 0 in
    let one : length (signed_by e.action 0) ≡ k = ends_one e.action 0 ∙ ap (λ b. if b then 1 else 0) is in
    let first : length (signed_from 0 (drop i all)) ≡ length (signed_by e.action 0) + length (signed_from after more) =
    ap (λ x. length (signed_from 0 x)) next ∙ length-append (signed_by e.action 0) (signed_from after more) in
    let others : length (signed_from after more) ≡ length (signed_from 0 more) = as_many more after 0 in
    omega arith

pub counted_all : (all : List Event) (i count : ℕ) → length all ≤ i → count + length (signed_from 0 (drop i all)) ≡ length (values_of all)
    → count ≡ length (values_of all)
counted_all all i count out sum =
    let none : length (signed_from 0 (drop i all)) ≡ 0 = ap (λ x. length (signed_from 0 x)) (drop_all i all out) in
    omega arith

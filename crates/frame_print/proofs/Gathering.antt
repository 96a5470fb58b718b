-- A text that is gathered part by part.
use Rattle.std.proofs.Common.{◌≡◌, ℕ, zero, suc, ◌+◌, ◌<◌, ◌≤◌, List, [], ◌∷◌, ◌++◌, length, get_or, take, drop, Option, Result, Ok, Err, refl, sym, ap, subst, ◌∙◌, arith, append_assoc, append-nil, true≢false}
use Rattle.std.specs.Prelude.{IsErr, IsOk, OnOk}
use Rattle.std.specs.Borrow.{Bor}
use Rattle.std.specs.Io.KnownBytes.{Appends}
use Rattle.std.proofs.lemmas.Grind.{common_steps}
use Rattle.std.proofs.lemmas.Result.{MatchResult-from_err}
use Rattle.job_base.specs.Texts.{Writes}
use Rattle.job_base.proofs.Parts.{InPart, appends_none, appends_more, stop_first, writes_after}
use Rattle.frame_print.specs.Gathering.{Joins, Gathers, joined}

-- the sink took some first bytes of a text
abbrev pub Stops : Option (List ℕ) → Option (List ℕ) → List ℕ → Type 0
Stops old new text = (n : ℕ) × Appends old new (take n text)

-- a call that hands on that it stopped
pub gathers_stops : {T E : Type 0} (old : Option (List ℕ)) (w : List ℕ) (new : Option (List ℕ)) (w' : List ℕ) (r : Result T E) (part : List ℕ)
    → IsErr r → Stops old new (w ++ part) → Gathers old w new w' r part
gathers_stops old w new w' r part is p = MatchResult-from_err r (λ _. Joins old w new w' part) (λ _. Stops old new (w ++ part)) is (λ _. p)

pub writes_stops : {T E : Type 0} (old new : Option (List ℕ)) (r : Result T E) (text : List ℕ) → IsErr r → Stops old new text → Writes old new r text
writes_stops old new r text is p = MatchResult-from_err r (λ _. Appends old new text) (λ _. Stops old new text) is (λ _. p)

-- ---- parts

-- no part was put
pub joins_none : (old : Option (List ℕ)) (w : List ℕ) → Joins old w old w []
joins_none old w = record { bytes = []; taken = appends_none old; whole = grind (arith, common_steps) }

met : (w a b c d w' w'' : List ℕ) → w ++ a ≡ c ++ w' → w' ++ b ≡ d ++ w'' → w ++ (a ++ b) ≡ (c ++ d) ++ w''
met w a b c d w' w'' p q = sym (append_assoc w a b) ∙ ap (λ l. l ++ b) p ∙ append_assoc c w' b ∙ ap (λ l. c ++ l) q ∙ sym (append_assoc c d w'')

-- a part was put, and then another
pub joins_more : (old : Option (List ℕ)) (w : List ℕ) (mid : Option (List ℕ)) (w' : List ℕ) (new : Option (List ℕ)) (w'' a b : List ℕ)
    → Joins old w mid w' a → Joins mid w' new w'' b → Joins old w new w'' (a ++ b)
joins_more old w mid w' new w'' a b p q = record {
  bytes = p.bytes ++ q.bytes;
  taken = appends_more old mid new p.bytes q.bytes p.taken q.taken;
  whole = met w a b p.bytes q.bytes w' w'' p.whole q.whole;
}

pass : (w a b c w' : List ℕ) → w ++ a ≡ c ++ w' → w ++ (a ++ b) ≡ c ++ (w' ++ b)
pass w a b c w' p = sym (append_assoc w a b) ∙ ap (λ l. l ++ b) p ∙ append_assoc c w' b

-- a part was put, and the next one stopped
pub stops_after : (old : Option (List ℕ)) (w : List ℕ) (mid : Option (List ℕ)) (w' : List ℕ) (new : Option (List ℕ)) (a b : List ℕ)
    → Joins old w mid w' a → Stops mid new (w' ++ b) → Stops old new (w ++ (a ++ b))
stops_after old w mid w' new a b p q =
    subst (λ t. Stops old new t) (sym (pass w a b p.bytes w' p.whole)) (writes_after {T = Unit {0}} {E = Unit {0}} old mid new (Err tt) p.bytes
    (w' ++ b) p.taken q)

-- what stopped in the first of two parts stopped in both
pub stops_before : (old : Option (List ℕ)) (w : List ℕ) (new : Option (List ℕ)) (a b : List ℕ) → Stops old new (w ++ a) → Stops old new (w ++ (a ++ b))
stops_before old w new a b p = subst (λ t. Stops old new t) (append_assoc w a b) (stop_first old new (w ++ a) b p)

-- a part was put, and then another was tried
pub gathers_after : {T E : Type 0} (old : Option (List ℕ)) (w : List ℕ) (mid : Option (List ℕ)) (w' : List ℕ) (new : Option (List ℕ)) (w'' : List ℕ)
    (r : Result T E) (a b : List ℕ)
    → Joins old w mid w' a → Gathers mid w' new w'' r b → Gathers old w new w'' r (a ++ b)
gathers_after old w mid w' new w'' (Ok x) a b p q = joins_more old w mid w' new w'' a b p q
gathers_after old w mid w' new w'' (Err e) a b p q = stops_after old w mid w' new a b p q

-- what waited was taken, and then a text was written at once
pub passes_on : {T E : Type 0} (old : Option (List ℕ)) (w : List ℕ) (mid new : Option (List ℕ)) (w' : List ℕ) (r : Result T E) (part : List ℕ)
    → Appends old mid w → w' ≡ [] → Writes mid new r part → Gathers old w new w' r part
passes_on old w mid new w' (Ok x) part p none q = record {
  bytes = w ++ part;
  taken = appends_more old mid new w part p q;
  whole = grind (arith, common_steps);
}
passes_on {T} {E} old w mid new w' (Err e) part p none q = writes_after {T = T} {E = E} old mid new (Err e) w part p q

-- what waited was written, and no part was put
pub flushed : {T E : Type 0} (old : Option (List ℕ)) (w : List ℕ) (new : Option (List ℕ)) (w' : List ℕ) (r : Result T E) → Writes old new r w → OnOk r (w' ≡ [])
    → Gathers old w new w' r []
flushed old w new w' (Ok x) p none = record { bytes = w; taken = p; whole = ap (λ l. w ++ l) (sym none) }
flushed old w new w' (Err e) p none = stop_first old new w [] p

pub room_after : {T E : Type 0} (r : Result T E) (w' : List ℕ) (n most : ℕ) → n ≤ most → OnOk r (w' ≡ []) → OnOk r (length w' + n ≤ most)
room_after (Ok x) w' n most h none = let empty = ap length none in omega arith
room_after (Err e) w' n most h none = tt

-- room was made, and then a part waits
pub keeps : (old : Option (List ℕ)) (w : List ℕ) (new : Option (List ℕ)) (w' w'' part : List ℕ) → Joins old w new w' [] → w'' ≡ w' ++ part
    → Joins old w new w'' part
keeps old w new w' w'' part p e = record {
  bytes = p.bytes;
  taken = p.taken;
  whole = ap (λ l. l ++ part) (sym (append-nil w) ∙ p.whole) ∙ append_assoc p.bytes w' part ∙ ap (λ l. p.bytes ++ l) (sym e);
}

-- a part waits for which there was room, and then another was tried
pub gathers_kept : {T E : Type 0} (old : Option (List ℕ)) (w w1 : List ℕ) (new : Option (List ℕ)) (w' : List ℕ) (r : Result T E) (a b : List ℕ)
    → w1 ≡ w ++ a → Gathers old w1 new w' r b → Gathers old w new w' r (a ++ b)
gathers_kept old w w1 new w' r a b e p = gathers_after old w old w1 new w' r a b (keeps old w old w w1 a (joins_none old w) e) p

-- a part waits for which there was room, and nothing more was put
pub gathers_ended : {T E : Type 0} (old : Option (List ℕ)) (w w' : List ℕ) (r : Result T E) (part : List ℕ) → IsOk r → w' ≡ w ++ part
    → Gathers old w old w' r part
gathers_ended old w w' (Ok x) part is e = keeps old w old w w' part (joins_none old w) e
gathers_ended old w w' (Err e) part is p = absurd (true≢false (sym is))

-- ---- a text with an end

-- In the end what waits is written: what waited first, and the text.
pub writes_whole : {T E : Type 0} (old : Option (List ℕ)) (w : List ℕ) (mid : Option (List ℕ)) (w' : List ℕ) (new : Option (List ℕ)) (r : Result T E)
    (text : List ℕ)
    → Joins old w mid w' text → Writes mid new r w' → Writes old new r (w ++ text)
writes_whole old w mid w' new r text p q = subst (λ t. Writes old new r t) (sym p.whole) (writes_after old mid new r p.bytes w' p.taken q)

-- ---- a text part by part

-- the parts before the rest were put
pub record Going (old : Option (List ℕ)) (w : List ℕ) (now : Option (List ℕ)) (w' whole rest : List ℕ) : Type 0 where
  pub done : List ℕ
  pub cut : whole ≡ done ++ rest
  pub put : Joins old w now w' done

-- at the start all of it is left
pub going_starts : (old : Option (List ℕ)) (w whole : List ℕ) → Going old w old w whole whole
going_starts old w whole = record { done = []; cut = refl; put = joins_none old w }

-- the next part was put
pub going_on : (old : Option (List ℕ)) (w : List ℕ) (now : Option (List ℕ)) (w' : List ℕ) (new : Option (List ℕ)) (w'' whole a rest : List ℕ)
    → Going old w now w' whole (a ++ rest) → Joins now w' new w'' a → Going old w new w'' whole rest
going_on old w now w' new w'' whole a rest p q = record {
  done = p.done ++ a;
  cut = p.cut ∙ sym (append_assoc p.done a rest);
  put = joins_more old w now w' new w'' p.done a p.put q;
}

-- the next part stopped
pub going_stops : (old : Option (List ℕ)) (w : List ℕ) (now : Option (List ℕ)) (w' : List ℕ) (new : Option (List ℕ)) (whole a rest : List ℕ)
    → Going old w now w' whole (a ++ rest) → Stops now new (w' ++ a) → Stops old new (w ++ whole)
going_stops old w now w' new whole a rest p q =
    subst (λ t. Stops old new (w ++ t)) (append_assoc p.done a rest ∙ sym p.cut)
    (stops_before old w new (p.done ++ a) rest (stops_after old w now w' new p.done a p.put q))

-- nothing is left
pub going_ends : (old : Option (List ℕ)) (w : List ℕ) (new : Option (List ℕ)) (w' whole rest : List ℕ) → Going old w new w' whole rest → rest ≡ []
    → Joins old w new w' whole
going_ends old w new w' whole rest p e =
    let same : p.done ≡ whole = grind (arith, common_steps) in
    subst (λ t. Joins old w new w' t) same p.put

-- ---- parts in a list

pub joined_next : (parts : List (Bor (List ℕ))) (i : ℕ) (d : Bor (List ℕ)) → i < length parts
    → joined (drop i parts) ≡ (get_or parts i d).now ++ joined (drop (i + 1) parts)
joined_next [] i d h = absurd (omega arith)
joined_next (part ∷ parts) zero d h = refl
joined_next (part ∷ parts) (suc i) d h =
    let next : suc i + 1 ≡ suc (i + 1) = omega arith in
    rw next (joined_next parts i d (omega arith))

module _ (old : Option (List ℕ)) (w : List ℕ) (now : Option (List ℕ)) (w' : List ℕ) (new : Option (List ℕ)) where
  pub going_part : (w'' : List ℕ) (parts : List (Bor (List ℕ))) (i : ℕ) (d : Bor (List ℕ)) → i < length parts
      → Going old w now w' (joined parts) (joined (drop i parts)) → Joins now w' new w'' (get_or parts i d).now
      → Going old w new w'' (joined parts) (joined (drop (i + 1) parts))
  going_part w'' parts i d h p q = going_on old w now w' new w'' (joined parts) (get_or parts i d).now _
      (subst (Going old w now w' (joined parts)) (joined_next parts i d h) p) q

  pub stops_part : (parts : List (Bor (List ℕ))) (i : ℕ) (d : Bor (List ℕ)) → i < length parts
      → Going old w now w' (joined parts) (joined (drop i parts)) → Stops now new (w' ++ (get_or parts i d).now) → Stops old new (w ++ joined parts)
  stops_part parts i d h p q = going_stops old w now w' new (joined parts) (get_or parts i d).now _
      (subst (Going old w now w' (joined parts)) (joined_next parts i d h) p) q

-- the next of some parts begins what is left to write
pub part_begins : (old mid : Option (List ℕ)) (text : List ℕ) (parts : List (Bor (List ℕ))) (i : ℕ) (d : Bor (List ℕ)) → i < length parts
    → InPart old mid text (joined (drop i parts)) → InPart old mid text ((get_or parts i d).now ++ joined (drop (i + 1) parts))
part_begins old mid text parts i d h p = subst (InPart old mid text) (joined_next parts i d h) p

-- the same under another spelling of the part
pub gathers_as : {T E : Type 0} (old : Option (List ℕ)) (w : List ℕ) (new : Option (List ℕ)) (w' : List ℕ) (r : Result T E) (t part : List ℕ)
    → t ≡ part → Gathers old w new w' r t → Gathers old w new w' r part
gathers_as old w new w' r t part e p = subst (λ l. Gathers old w new w' r l) e p

pub joins_as : (old : Option (List ℕ)) (w : List ℕ) (new : Option (List ℕ)) (w' t part : List ℕ) → t ≡ part → Joins old w new w' t → Joins old w new w' part
joins_as old w new w' t part e p = subst (λ l. Joins old w new w' l) e p

pub stops_as : (old : Option (List ℕ)) (w : List ℕ) (new : Option (List ℕ)) (t part : List ℕ) → t ≡ part → Stops old new (w ++ t) → Stops old new (w ++ part)
stops_as old w new t part e p = subst (λ l. Stops old new (w ++ l)) e p

-- ---- a text of three parts

module _ (old : Option (List ℕ)) (w : List ℕ) (a b c text : List ℕ) (e : (a ++ b) ++ c ≡ text) where
  pub first_stops : (new : Option (List ℕ)) → Stops old new (w ++ a) → Stops old new (w ++ text)
  first_stops new p = stops_as old w new ((a ++ b) ++ c) text e (stops_before old w new (a ++ b) c (stops_before old w new a b p))

  module _ (mid : Option (List ℕ)) (w' : List ℕ) (p : Joins old w mid w' a) where
    pub second_stops : (new : Option (List ℕ)) → Stops mid new (w' ++ b) → Stops old new (w ++ text)
    second_stops new q = stops_as old w new ((a ++ b) ++ c) text e (stops_before old w new (a ++ b) c (stops_after old w mid w' new a b p q))

    pub third_gathers : {T E : Type 0} (later : Option (List ℕ)) (w'' : List ℕ) (new : Option (List ℕ)) (w''' : List ℕ) (r : Result T E)
        → Joins mid w' later w'' b → Gathers later w'' new w''' r c → Gathers old w new w''' r text
    third_gathers later w'' new w''' r q s =
        gathers_as old w new w''' r ((a ++ b) ++ c) text e (gathers_after old w later w'' new w''' r (a ++ b) c (joins_more old w mid w' later w'' a b p q) s)

    pub third_joins : (later : Option (List ℕ)) (w'' : List ℕ) (new : Option (List ℕ)) (w''' : List ℕ)
        → Joins mid w' later w'' b → Joins later w'' new w''' c → Joins old w new w''' text
    third_joins later w'' new w''' q s =
        joins_as old w new w''' ((a ++ b) ++ c) text e (joins_more old w later w'' new w''' (a ++ b) c (joins_more old w mid w' later w'' a b p q) s)

    pub third_stops : (later : Option (List ℕ)) (w'' : List ℕ) (new : Option (List ℕ)) → Joins mid w' later w'' b → Stops later new (w'' ++ c)
        → Stops old new (w ++ text)
    third_stops later w'' new q s =
        stops_as old w new ((a ++ b) ++ c) text e (stops_after old w later w'' new (a ++ b) c (joins_more old w mid w' later w'' a b p q) s)

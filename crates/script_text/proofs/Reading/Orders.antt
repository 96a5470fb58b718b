-- The events of a statement are read as the statement that they spell.
use Rattle.std.proofs.Common.{◌≡◌, ℕ, suc, ◌+◌, ◌-◌, ◌<◌, ◌≤◌, length, take, drop, drop-cons, add-one, get_or, length-append, length-drop, arith, if◌then◌else◌, Bool, true, false, List, [], ◌∷◌, ◌++◌, Option, Some, None, sym, ◌∙◌, ap, append_assoc}
use Rattle.std.proofs.lemmas.List.{drop_all}
use Rattle.std.proofs.Math.Seq.{drop-append_seam, take-append_seam}
use Rattle.frame_ast.specs.declared.script.Life.{Life}
use Rattle.frame_grammar.specs.declared.symbols.Action.TheVariants as action
use Rattle.frame_grammar.specs.declared.symbols.Event.{Event}
use Rattle.kernel_raw.specs.RawEvents.{on}
use Rattle.script_text.specs.declared.raw.RawNumber.{RawNumber}
use Rattle.script_text.specs.declared.raw.RawArg.{RawArg}
use Rattle.script_text.specs.declared.raw.RawSizes.{RawSizes}
use Rattle.script_text.specs.Raw.{OrderForm, values_of, NewArray, NewReference, Set, Add, Put, Remove, Schedule, Combine, Dispose}
use Rattle.script_text.specs.Events.{minus, plain, SpellsValues, none, some, names_events, SpellsArgs, SpellsSizes, SpellsWaived, SpellsAfter, SpellsOrder, BeginsOrder, array, column, list, reference, mapped, stream, slice, view, copy, set, add, put, remove, clear, set_capacity, schedule, combine, complete, dispose, dispose_after, dispose_auto, print, flush, frame, repeated, when}
use Rattle.script_text.specs.declared.build_scalars.Scalars.{Scalars}
use Rattle.script_text.specs.Reading.{signed_of, no_scalars, no_numbers, no_names, Reading, nothing_read, opens_values, values_len, array_with, order_from, ends, finished, step}
use Rattle.script_text.proofs.Reading.Values.{numbers_said, values_end}
use Rattle.script_text.proofs.Reading.ClauseEvents.{reading, of_events, life_read, signed_read, maybe_read, names_read, args_read, sizes_read, waived_read, after_read}

two : (es es' rest : List Event) → (es ++ es') ++ rest ≡ es ++ (es' ++ rest)
two es es' rest = append_assoc es es' rest

values_read : (x n : ℕ) (life : Life) (q : ℕ) (rest : List Event) {events : List Event} {values : Option (List RawNumber)} → SpellsValues events values →
    order_from (reading (record no_scalars { names = record no_names { last = x }; numbers = record no_numbers { last = n }; life = life }) [] [] [])
    (events ++ on action.ArrayStatement q ∷ rest)
    ≡ Some (NewArray x n life values, rest)
values_read x n life q rest {events} (none p e) =
    of_events (reading (record no_scalars { names = record no_names { last = x }; numbers = record no_numbers { last = n }; life = life }) [] [] []) events
    (on action.NoValues p ∷ []) (on action.ArrayStatement q ∷ rest) e
values_read x n life q rest {events} (some o c es s e) =
    let w = record no_scalars { names = record no_names { last = x }; numbers = record no_numbers { last = n }; life = life } in
    let r = reading w [] [] [] in
    let end = on action.ArrayStatement q ∷ rest in
    let behind = on action.CloseValues c ∷ end in
    let len = values_end s c end in
    of_events r events (on action.OpenValues o ∷ es ++ on action.CloseValues c ∷ []) end e
    ∙ ap (λ y. order_from r (on action.OpenValues o ∷ y)) (two es (on action.CloseValues c ∷ []) end)
    ∙ ap (λ k. array_with w (take k (es ++ behind)) (drop k (es ++ behind))) len
    ∙ ap (λ y. array_with w y (drop (length es) (es ++ behind))) (take-append_seam es behind)
    ∙ ap (λ y. array_with w es y) (drop-append_seam es behind)
    ∙ ap (λ y. Some (NewArray x n life (Some y), rest)) (numbers_said s 0)

abbrev schedule_events : (h k o c q : ℕ) (as' ss ws fs : List Event) → List Event
schedule_events h k o c q as' ss ws fs =
    on action.Name h ∷ on action.Name k ∷ on action.OpenArguments o ∷ as'
    ++ (on action.CloseArguments c ∷ ss ++ (ws ++ (fs ++ on action.ScheduleStatement q ∷ [])))

clauses : (c : Event) (as' ss ws fs es rest : List Event) → (as' ++ (c ∷ ss ++ (ws ++ (fs ++ es)))) ++ rest ≡ as' ++ (c ∷ ss ++ (ws ++ (fs ++ (es ++ rest))))
clauses c as' ss ws fs es rest = simp append_assoc

schedule_read : (auto : Bool) (h k o c q : ℕ) (as' ss ws fs rest : List Event) {args : List RawArg} {cut : RawSizes} {waive after : List ℕ} →
    SpellsArgs as' args → SpellsSizes ss cut → SpellsWaived ws waive → SpellsAfter fs after →
    order_from (reading (record no_scalars { auto = auto }) [] [] []) (schedule_events h k o c q as' ss ws fs ++ rest) ≡ Some
    (Schedule auto h k args cut waive after, rest)
schedule_read auto h k o c q as' ss ws fs rest {args} {cut} {waive} {after} a s v f =
    let end = on action.ScheduleStatement q ∷ rest in
    let w = record no_scalars { auto = auto; names = record no_names { before_last = h; last = k; handle = h; kernel = k } } in
    let a' = args_read a w [] [] [] (on action.CloseArguments c ∷ ss ++ (ws ++ (fs ++ end))) in
    let w1 = record w { names = a'.names; numbers = a'.numbers } in
    let s' = sizes_read s w1 args [] [] (ws ++ (fs ++ end)) in
    let w2 = record w1 { sizes = cut; names = s'.names; numbers = s'.numbers } in
    let v' = waived_read v w2 args (fs ++ end) in
    let w3 = record w2 { names = v'.names } in
    let f' = after_read f w3 args waive end in
    ap (λ y. order_from (reading w [] [] []) y) (clauses (on action.CloseArguments c) as' ss ws fs (on action.ScheduleStatement q ∷ []) rest)
    ∙ a'.read
    ∙ s'.read
    ∙ v'.read
    ∙ f'.read
    ∙ ap (λ y. Some (Schedule auto y f'.names.kernel args cut waive after, rest)) (f'.handle ∙ v'.handle ∙ s'.handle ∙ a'.handle)
    ∙ ap (λ y. Some (Schedule auto h y args cut waive after, rest)) (f'.kernel ∙ v'.kernel ∙ s'.kernel ∙ a'.kernel)

pub order_read : {events : List Event} {form : OrderForm} → SpellsOrder events form → (rest : List Event)
    → order_from nothing_read (events ++ rest) ≡ Some (form, rest)
order_read {events} (array {x = x} {n = n} {life = life} a p q vs l v e) rest =
    let w = record no_scalars { names = record no_names { last = x }; numbers = record no_numbers { last = n } } in
    let end = on action.ArrayStatement q ∷ rest in
    of_events nothing_read events (on action.Name x ∷ on action.Number n ∷ on a p ∷ vs ++ on action.ArrayStatement q ∷ []) rest e
    ∙ life_read w [] [] [] ((vs ++ on action.ArrayStatement q ∷ []) ++ rest) p l
    ∙ ap (λ y. order_from (reading (record w { life = life }) [] [] []) y) (two vs (on action.ArrayStatement q ∷ []) rest)
    ∙ values_read x n life q rest v
order_read {events} (column {x = x} {n = n} a p q l e) rest =
    let w = record no_scalars { names = record no_names { last = x }; numbers = record no_numbers { last = n } } in
    of_events nothing_read events (on action.Name x ∷ on action.Text n ∷ on a p ∷ on action.ColumnStatement q ∷ []) rest e
    ∙ life_read w [] [] [] (on action.ColumnStatement q ∷ rest) p l
order_read {events} (list {x = x} {n = n} a p q l e) rest =
    let w = record no_scalars { names = record no_names { last = x }; numbers = record no_numbers { last = n } } in
    of_events nothing_read events (on action.Name x ∷ on action.Number n ∷ on a p ∷ on action.ListStatement q ∷ []) rest e
    ∙ life_read w [] [] [] (on action.ListStatement q ∷ rest) p l
order_read {events} (reference {x = x} {life = life} a p q vs l v e) rest =
    let w = record no_scalars { names = record no_names { last = x } } in
    let m = maybe_read (record w { life = life }) [] [] [] (on action.ReferenceStatement q ∷ rest) v in
    of_events nothing_read events (on action.Name x ∷ on a p ∷ vs ++ on action.ReferenceStatement q ∷ []) rest e
    ∙ life_read w [] [] [] ((vs ++ on action.ReferenceStatement q ∷ []) ++ rest) p l
    ∙ ap (λ y. order_from (reading (record w { life = life }) [] [] []) y) (two vs (on action.ReferenceStatement q ∷ []) rest)
    ∙ m.read
    ∙ ap (λ y. Some (NewReference x life y, rest)) m.is
order_read {events} (mapped {x = x} {n = n} a p q l e) rest =
    let w = record no_scalars { names = record no_names { last = x }; numbers = record no_numbers { last = n } } in
    of_events nothing_read events (on action.Name x ∷ on action.Number n ∷ on a p ∷ on action.MapStatement q ∷ []) rest e
    ∙ life_read w [] [] [] (on action.MapStatement q ∷ rest) p l
order_read {events} (stream {x = x} {n = n} {m = m} a p q l e) rest =
    let w = record no_scalars { names = record no_names { last = x }; numbers = record no_numbers { before_last = n; last = m } } in
    of_events nothing_read events (on action.Name x ∷ on action.Number n ∷ on action.Number m ∷ on a p ∷ on action.StreamStatement q ∷ []) rest e
    ∙ life_read w [] [] [] (on action.StreamStatement q ∷ rest) p l
order_read {events} (slice {x = x} {y = y} {n = n} {m = m} q e) rest =
    of_events nothing_read events (on action.Name x ∷ on action.Name y ∷ on action.Number n ∷ on action.Number m ∷ on action.SliceStatement q ∷ []) rest e
order_read {events} (view {x = x} {y = y} q e) rest = of_events nothing_read events
    (on action.Name x ∷ on action.Name y ∷ on action.ViewStatement q ∷ []) rest e
order_read {events} (copy {x = x} {y = y} q e) rest = of_events nothing_read events
    (on action.Name x ∷ on action.Name y ∷ on action.CopyStatement q ∷ []) rest e
order_read {events} (set {x = x} {at = at} {value = value} q is vs i v e) rest =
    let w = record no_scalars { names = record no_names { last = x } } in
    let end = on action.SetStatement q ∷ rest in
    let m = maybe_read w [] [] [] (vs ++ end) i in
    let s = signed_read (reading (record w { numbers = m.numbers }) [] [] []) end v in
    of_events nothing_read events (on action.Name x ∷ is ++ (vs ++ on action.SetStatement q ∷ [])) rest e
    ∙ ap (λ y. order_from (reading w [] [] []) y) (two is (vs ++ on action.SetStatement q ∷ []) rest
    ∙ ap (λ y. is ++ y) (two vs (on action.SetStatement q ∷ []) rest))
    ∙ m.read
    ∙ s.read
    ∙ ap (λ y. Some (Set x y (signed_of s.numbers.signed), rest)) (s.before_last ∙ m.is)
    ∙ ap (λ y. Some (Set x at (signed_of y), rest)) s.is
order_read {events} (add {x = x} {first = first} {second = second} q is vs i v e) rest =
    let w = record no_scalars { names = record no_names { last = x } } in
    let end = on action.AddToStatement q ∷ rest in
    let s = signed_read (reading w [] [] []) (vs ++ end) i in
    let m = maybe_read (record w { numbers = s.numbers }) [] [] [] end v in
    of_events nothing_read events (on action.Name x ∷ is ++ (vs ++ on action.AddToStatement q ∷ [])) rest e
    ∙ ap (λ y. order_from (reading w [] [] []) y) (two is (vs ++ on action.AddToStatement q ∷ []) rest
    ∙ ap (λ y. is ++ y) (two vs (on action.AddToStatement q ∷ []) rest))
    ∙ s.read
    ∙ m.read
    ∙ ap (λ y. Some (Add x (signed_of y) m.numbers.signed, rest)) (m.before_last ∙ s.is)
    ∙ ap (λ y. Some (Add x first y, rest)) m.is
order_read {events} (put {x = x} {key = key} {value = value} q is vs i v e) rest =
    let w = record no_scalars { names = record no_names { last = x } } in
    let end = on action.PutStatement q ∷ rest in
    let s = signed_read (reading w [] [] []) (vs ++ end) i in
    let t = signed_read (reading (record w { numbers = s.numbers }) [] [] []) end v in
    of_events nothing_read events (on action.Name x ∷ is ++ (vs ++ on action.PutStatement q ∷ [])) rest e
    ∙ ap (λ y. order_from (reading w [] [] []) y) (two is (vs ++ on action.PutStatement q ∷ []) rest
    ∙ ap (λ y. is ++ y) (two vs (on action.PutStatement q ∷ []) rest))
    ∙ s.read
    ∙ t.read
    ∙ ap (λ y. Some (Put x (signed_of y) (signed_of t.numbers.signed), rest)) (t.before_last ∙ s.is)
    ∙ ap (λ y. Some (Put x key (signed_of y), rest)) t.is
order_read {events} (remove {x = x} {at = at} q is i e) rest =
    let w = record no_scalars { names = record no_names { last = x } } in
    let s = signed_read (reading w [] [] []) (on action.RemoveFromStatement q ∷ rest) i in
    of_events nothing_read events (on action.Name x ∷ is ++ on action.RemoveFromStatement q ∷ []) rest e
    ∙ ap (λ y. order_from (reading w [] [] []) y) (two is (on action.RemoveFromStatement q ∷ []) rest)
    ∙ s.read
    ∙ ap (λ y. Some (Remove x (signed_of y), rest)) s.is
order_read {events} (clear {x = x} q e) rest = of_events nothing_read events (on action.Name x ∷ on action.ClearOutStatement q ∷ []) rest e
order_read {events} (set_capacity {x = x} {n = n} q e) rest = of_events nothing_read events
    (on action.Name x ∷ on action.Number n ∷ on action.SetCapacityStatement q ∷ []) rest e
order_read {events} (schedule {auto = true} {h = h} {k = k} {args = args} {cut = cut} {waive = waive} {after = after} u o c q as' ss ws fs a s v f e) rest =
    of_events nothing_read events (on action.Auto u ∷ schedule_events h k o c q as' ss ws fs) rest e ∙ schedule_read true h k o c q as' ss ws fs rest a s v f
order_read {events} (schedule {auto = false} {h = h} {k = k} {args = args} {cut = cut} {waive = waive} {after = after} u o c q as' ss ws fs a s v f e) rest =
    of_events nothing_read events (on action.NotAuto u ∷ schedule_events h k o c q as' ss ws fs) rest e
    ∙ schedule_read false h k o c q as' ss ws fs rest a s v f
order_read {events} (combine {x = x} {of = of} o q e) rest =
    let r = reading (record no_scalars { names = record no_names { last = x } }) [] [] [] in
    let all = names_read of (record no_scalars { names = record no_names { last = x; opener = x } }) [] [] [] (on action.CombineStatement q ∷ rest) in
    of_events nothing_read events (on action.Name x ∷ on action.OpenNames o ∷ names_events of ++ on action.CombineStatement q ∷ []) rest e
    ∙ ap (λ y. order_from r (on action.OpenNames o ∷ y)) (two (names_events of) (on action.CombineStatement q ∷ []) rest)
    ∙ all.read
    ∙ ap (λ y. Some (Combine y of, rest)) all.opener
order_read {events} (complete {auto = true} {x = x} u q e) rest = of_events nothing_read events
    (on action.Auto u ∷ on action.Name x ∷ on action.CompleteStatement q ∷ []) rest e
order_read {events} (complete {auto = false} {x = x} u q e) rest = of_events nothing_read events
    (on action.NotAuto u ∷ on action.Name x ∷ on action.CompleteStatement q ∷ []) rest e
order_read {events} (dispose {x = x} q e) rest = of_events nothing_read events (on action.Name x ∷ on action.DisposeStatement q ∷ []) rest e
order_read {events} (dispose_after {x = x} {y = y} {h = h} {ys = ys} o a q e) rest =
    let r = reading (record no_scalars { names = record no_names { last = x } }) [] [] [] in
    let last = on action.After a ∷ on action.Name h ∷ on action.DisposeAfterStatement q ∷ [] in
    let all = names_read (y ∷ ys) (record no_scalars { names = record no_names { last = x; opener = x } }) [] [] [] (last ++ rest) in
    of_events nothing_read events (on action.Name x ∷ on action.OpenNames o ∷ names_events (y ∷ ys) ++ last) rest e
    ∙ ap (λ z. order_from r (on action.OpenNames o ∷ z)) (two (names_events (y ∷ ys)) last rest)
    ∙ all.read
    ∙ ap (λ z. Some (Dispose z (y ∷ ys) (Some h), rest)) all.opener
order_read {events} (dispose_auto {x = x} {h = h} q e) rest = of_events nothing_read events
    (on action.Name x ∷ on action.Name h ∷ on action.DisposeAutoStatement q ∷ []) rest e
order_read {events} (print {x = x} q e) rest = of_events nothing_read events (on action.Name x ∷ on action.PrintStatement q ∷ []) rest e
order_read {events} (flush q e) rest = of_events nothing_read events (on action.FlushStatement q ∷ []) rest e
order_read {events} (frame q e) rest = of_events nothing_read events (on action.FrameStatement q ∷ []) rest e
order_read {events} (repeated {n = n} q e) rest = of_events nothing_read events (on action.Number n ∷ on action.OpenRepeat q ∷ []) rest e
order_read {events} (when {x = x} {s = s} q vs (minus {at = at} o p e') e) rest =
    let w = record no_scalars { names = record no_names { last = x }; numbers = record no_numbers { operator = s } } in
    of_events nothing_read events (on action.Name x ∷ on action.Operator s ∷ vs ++ on action.OpenWhen q ∷ []) rest e
    ∙ ap (λ y. order_from (reading w [] [] []) ((y ++ on action.OpenWhen q ∷ []) ++ rest)) e'
order_read {events} (when {x = x} {s = s} q vs (plain {at = at} p e') e) rest =
    let w = record no_scalars { names = record no_names { last = x }; numbers = record no_numbers { operator = s } } in
    of_events nothing_read events (on action.Name x ∷ on action.Operator s ∷ vs ++ on action.OpenWhen q ∷ []) rest e
    ∙ ap (λ y. order_from (reading w [] [] []) ((y ++ on action.OpenWhen q ∷ []) ++ rest)) e'

-- what is found where the events begin with a statement
pub begun_read : (all : List Event) (begun : BeginsOrder all) → order_from nothing_read all ≡ Some (begun.form, begun.rest)
begun_read all begun = ap (λ x. order_from nothing_read x) begun.all_are ∙ order_read begun.spells begun.rest

-- what is found at an event, by what the event does
abbrev next_found : (opens ends : Bool) → Event → List Event → Reading → Option (OrderForm × List Event)
next_found opens ends e es r =
    if opens then array_with r.scalars (take (values_len es) es) (drop (values_len es) es)
    else if ends then Some (finished e.action r, es)
    else order_from (step e.action e.place r) es

-- an event that neither ends it nor opens the values of an array
pub went_on : (all : List Event) (i : ℕ) (d : Event) (r next : Reading) → i < length all → order_from r (drop i all) ≡ order_from nothing_read all →
    opens_values (get_or all i d).action ≡ false → ends (get_or all i d).action ≡ false → next ≡ step (get_or all i d).action (get_or all i d).place r →
    order_from next (drop (i + 1) all) ≡ order_from nothing_read all
went_on all i d r next within same shut goes stepped =
    let e = get_or all i d in
    let rest = drop (suc i) all in
    let one : order_from r (drop i all) ≡ order_from (step e.action e.place r) rest =
    ap (λ x. order_from r x) (drop-cons all i d within) ∙ ap (λ b. next_found b (ends e.action) e rest r) shut ∙ ap (λ b. next_found false b e rest r) goes in
    rw (add-one i) (ap (λ x. order_from x rest) stepped ∙ sym one ∙ same)

-- the event that ends it
pub ended_read : (all : List Event) (i : ℕ) (d : Event) (r : Reading) → i < length all → order_from r (drop i all) ≡ order_from nothing_read all →
    opens_values (get_or all i d).action ≡ false → ends (get_or all i d).action ≡ true →
    (begun : BeginsOrder all) → (finished (get_or all i d).action r ≡ begun.form) × (drop (suc i) all ≡ begun.rest)
ended_read all i d r within same shut ended begun =
    let e = get_or all i d in
    let rest = drop (suc i) all in
    let one : order_from r (drop i all) ≡ Some (finished e.action r, rest) =
    ap (λ x. order_from r x) (drop-cons all i d within) ∙ ap (λ b. next_found b (ends e.action) e rest r) shut ∙ ap (λ b. next_found false b e rest r) ended in
    let found : OrderForm × List Event = (finished e.action r, rest) in
    let wanted : OrderForm × List Event = (begun.form, begun.rest) in
    let both : Some found ≡ Some wanted = sym one ∙ same ∙ begun_read all begun in
    let pairs : found ≡ wanted = cc in
    (ap (λ x. x.0) pairs, ap (λ x. x.1) pairs)

-- an array that is found: its form, and how many events stand from those behind its values on
found_array : (w : Scalars) (values behind : List Event) (form : OrderForm) (rest : List Event) → array_with w values behind ≡ Some (form, rest) →
    (NewArray w.names.last w.numbers.last w.life (Some (values_of values)) ≡ form) × (length behind ≡ length rest + 2)
found_array w values [] form rest h = cc
found_array w values (close ∷ []) form rest h = cc
found_array w values (close ∷ end ∷ more) form rest h =
    let found : OrderForm × List Event = (NewArray w.names.last w.numbers.last w.life (Some (values_of values)), more) in
    let wanted : OrderForm × List Event = (form, rest) in
    let both : Some found ≡ Some wanted = h in
    let pairs : found ≡ wanted = cc in
    let behind : more ≡ rest = ap (λ x. x.1) pairs in
    (ap (λ x. x.0) pairs, ap (λ x. suc (suc (length x))) behind ∙ two_more (length rest))
  where
    two_more : (n : ℕ) → suc (suc n) ≡ n + 2
    two_more n = omega arith

-- the event that opens the values of an array
pub opened_read : (all : List Event) (i : ℕ) (d : Event) (r : Reading) → i < length all → order_from r (drop i all) ≡ order_from nothing_read all →
    opens_values (get_or all i d).action ≡ true → (begun : BeginsOrder all) →
    let rest = drop (i + 1) all in
    (NewArray r.scalars.names.last r.scalars.numbers.last r.scalars.life (Some (values_of (take (values_len rest) rest))) ≡ begun.form)
    × (i + 1 + values_len rest + 2 ≡ length begun.events)
opened_read all i d r within same opens begun =
    let e = get_or all i d in
    let rest = drop (suc i) all in
    let n = values_len rest in
    let one : order_from r (drop i all) ≡ array_with r.scalars (take n rest) (drop n rest) =
    ap (λ x. order_from r x) (drop-cons all i d within) ∙ ap (λ b. next_found b (ends e.action) e rest r) opens in
    let found = found_array r.scalars (take n rest) (drop n rest) begun.form begun.rest (sym one ∙ same ∙ begun_read all begun) in
    let behind : length (drop n rest) ≡ length begun.rest + 2 = found.1 in
    let a : length all ≡ length begun.events + length begun.rest = ap length begun.all_are ∙ length-append begun.events begun.rest in
    let b : length rest ≡ length all - suc i = length-drop (suc i) all in
    let c : length (drop n rest) ≡ length rest - n = length-drop n rest in
    let read : suc i + n + 2 ≡ length begun.events = omega arith in
    rw (add-one i) (found.0, read)

-- and where it stands
pub ended_place : (all : List Event) (i : ℕ) (begun : BeginsOrder all) → i < length all → drop (suc i) all ≡ begun.rest → i + 1 ≡ length begun.events
ended_place all i begun within behind =
    let a : length all ≡ length begun.events + length begun.rest = ap length begun.all_are ∙ length-append begun.events begun.rest in
    let b : length all - suc i ≡ length begun.rest = sym (length-drop (suc i) all) ∙ ap length behind in
    omega arith

-- The events of a statement don't run out before it ends.
pub never_out : (all : List Event) (i : ℕ) (r : Reading) → length all ≤ i → order_from r (drop i all) ≡ order_from nothing_read all → BeginsOrder all → ⊥
never_out all i r out same begun =
    let none : drop i all ≡ [] = drop_all i all out in
    let one : order_from r (drop i all) ≡ None = ap (λ x. order_from r x) none in
    let wanted : OrderForm × List Event = (begun.form, begun.rest) in
    let both : None ≡ Some wanted = sym one ∙ same ∙ begun_read all begun in
    cc

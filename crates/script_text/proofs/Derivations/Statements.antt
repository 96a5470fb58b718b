-- What the statements of a script mean, production by production.
use Rattle.std.proofs.Common.{◌≡◌, ℕ, suc, ◌+◌, inl, inr, List, [], ◌∷◌, ◌++◌, length, None, refl, sym, ◌∙◌, ap, append_assoc}
use Rattle.frame_grammar.specs.declared.token_kind.TokenKind.{TokenKind}
use Rattle.frame_grammar.specs.declared.token_kind.TokenKind.TheVariants as token
use Rattle.frame_grammar.specs.declared.symbols.Production.TheVariants as production
use Rattle.frame_grammar.specs.declared.symbols.Action.TheVariants as action
use Rattle.frame_grammar.specs.declared.symbols.Event.{Event}
use Rattle.frame_grammar.specs.Grammar.{head_of}
use Rattle.frame_grammar.specs.Bodies.{body_of}
use Rattle.kernel_raw.specs.RawEvents.{on}
use Rattle.script_text.specs.Raw.{OrderForm, NewArray, NewColumn, NewList, NewReference, NewMap, NewStream, Slice, View, Copy, Set, Add, Put, Remove, Clear, SetCapacity, Schedule, Combine, Complete, Print, Flush, Frame, Repeat, When}
use Rattle.script_text.specs.Events.{SpellsOrder, array, column, list, reference, mapped, stream, slice, view, copy, set, add, put, remove, clear, set_capacity, schedule, combine, complete, print, flush, frame, repeated, when, closing}
use Rattle.script_text.specs.Places.{OrderStands, Stands}
use Rattle.script_text.proofs.Derivations.Meanings.{StatementMeans}
use Rattle.script_text.proofs.Derivations.Clauses.{Build, and_no_more}

-- a statement without a block, whose first token is known
single : {all : List TokenKind} {n : ℕ} {events : List Event} (first : TokenKind) (order : OrderForm) → Stands all first n → SpellsOrder events order
    → closing order ≡ None → OrderStands all order →
    StatementMeans all n events
single first order at spells no_block stands =
    record { first = first; first_stands = at; said = inl (record { order = order; spells = spells; no_block = no_block; stands = stands }) }

pub array_statement : (all : List TokenKind) → Build all production.ArrayStatement
unfolding body_of head_of
array_statement all n (t, (x, (k, (l, (v, _))))) =
    let end = suc (suc (suc n)) + length l.tokens + length v.tokens in
    single token.Array (NewArray (suc n) (suc (suc n)) l.means.life v.means.values) t
    (array l.means.said l.means.at end v.events l.means.spells v.means.spells
    (ap (λ y. on action.Name (suc n) ∷ on action.Number (suc (suc n)) ∷ (y ++ (v.events ++ on action.ArrayStatement end ∷ []))) l.means.events_are)) refl
    (x, k, v.means.stand)

pub column_statement : (all : List TokenKind) → Build all production.ColumnStatement
unfolding body_of head_of
column_statement all n (t, (x, (k, (l, _)))) =
    let end = suc (suc (suc n)) + length l.tokens in
    single token.Column (NewColumn (suc n) (suc (suc n)) l.means.life) t (column l.means.said l.means.at end l.means.spells
    (ap (λ y. on action.Name (suc n) ∷ on action.Text (suc (suc n)) ∷ (y ++ on action.ColumnStatement end ∷ [])) l.means.events_are)) refl (x, k)

pub list_statement : (all : List TokenKind) → Build all production.ListStatement
unfolding body_of head_of
list_statement all n (t, (x, (k, (l, _)))) =
    let end = suc (suc (suc n)) + length l.tokens in
    single token.List (NewList (suc n) (suc (suc n)) l.means.life) t (list l.means.said l.means.at end l.means.spells
    (ap (λ y. on action.Name (suc n) ∷ on action.Number (suc (suc n)) ∷ (y ++ on action.ListStatement end ∷ [])) l.means.events_are)) refl (x, k)

pub reference_statement : (all : List TokenKind) → Build all production.ReferenceStatement
unfolding body_of head_of
reference_statement all n (t, (x, (l, (v, _)))) =
    let end = suc (suc n) + length l.tokens + length v.tokens in
    single token.Reference (NewReference (suc n) l.means.life v.means.number) t
    (reference l.means.said l.means.at end v.events l.means.spells v.means.spells
    (ap (λ y. on action.Name (suc n) ∷ (y ++ (v.events ++ on action.ReferenceStatement end ∷ []))) l.means.events_are)) refl (x, v.means.stand)

pub map_statement : (all : List TokenKind) → Build all production.MapStatement
unfolding body_of head_of
map_statement all n (t, (x, (k, (l, _)))) =
    let end = suc (suc (suc n)) + length l.tokens in
    single token.Map (NewMap (suc n) (suc (suc n)) l.means.life) t (mapped l.means.said l.means.at end l.means.spells
    (ap (λ y. on action.Name (suc n) ∷ on action.Number (suc (suc n)) ∷ (y ++ on action.MapStatement end ∷ [])) l.means.events_are)) refl (x, k)

pub stream_statement : (all : List TokenKind) → Build all production.StreamStatement
unfolding body_of head_of
stream_statement all n (t, (x, (k, (j, (l, _))))) =
    let end = suc (suc (suc (suc n))) + length l.tokens in
    single token.Stream (NewStream (suc n) (suc (suc n)) (suc (suc (suc n))) l.means.life) t
    (stream l.means.said l.means.at end l.means.spells (ap (λ y. on action.Name (suc n) ∷ on action.Number (suc (suc n))
    ∷ on action.Number (suc (suc (suc n))) ∷ (y ++ on action.StreamStatement end ∷ [])) l.means.events_are)) refl (x, k, j)

pub slice_statement : (all : List TokenKind) → Build all production.SliceStatement
unfolding body_of head_of
slice_statement all n (t, (x, (y, (k, (j, _))))) =
    single token.Slice (Slice (suc n) (suc (suc n)) (suc (suc (suc n))) (suc (suc (suc (suc n))))) t (slice (suc (suc (suc (suc (suc n))))) refl) refl
    (x, y, k, j)

pub view_statement : (all : List TokenKind) → Build all production.ViewStatement
unfolding body_of head_of
view_statement all n (t, (x, (y, _))) =
    single token.View (View (suc n) (suc (suc n))) t (view (suc (suc (suc n))) refl) refl (x, y)

pub copy_statement : (all : List TokenKind) → Build all production.CopyStatement
unfolding body_of head_of
copy_statement all n (t, (x, (y, _))) =
    single token.Copy (Copy (suc n) (suc (suc n))) t (copy (suc (suc (suc n))) refl) refl (x, y)

pub set_statement : (all : List TokenKind) → Build all production.SetStatement
unfolding body_of head_of
set_statement all n (t, (x, (i, (a, (v, _))))) =
    single token.Set (Set (suc n) i.means.number v.means.number) t (set (suc (suc (suc n) + length i.tokens) + length v.tokens) i.events v.events i.means.spells
    v.means.spells refl) refl (x, i.means.stand, v.means.stands)

pub add_to_statement : (all : List TokenKind) → Build all production.AddToStatement
unfolding body_of head_of
add_to_statement all n (t, (x, (i, (v, _)))) =
    single token.Add (Add (suc n) i.means.number v.means.number) t (add (suc (suc n) + length i.tokens + length v.tokens) i.events v.events i.means.spells
    v.means.spells refl) refl (x, i.means.stands, v.means.stand)

pub put_statement : (all : List TokenKind) → Build all production.PutStatement
unfolding body_of head_of
put_statement all n (t, (x, (i, (v, _)))) =
    single token.Put (Put (suc n) i.means.number v.means.number) t (put (suc (suc n) + length i.tokens + length v.tokens) i.events v.events i.means.spells
    v.means.spells refl) refl (x, i.means.stands, v.means.stands)

pub remove_from_statement : (all : List TokenKind) → Build all production.RemoveFromStatement
unfolding body_of head_of
remove_from_statement all n (t, (x, (i, _))) =
    single token.Remove (Remove (suc n) i.means.number) t (remove (suc (suc n) + length i.tokens) i.events i.means.spells refl) refl (x, i.means.stands)

pub clear_out_statement : (all : List TokenKind) → Build all production.ClearOutStatement
unfolding body_of head_of
clear_out_statement all n (t, (x, _)) =
    single token.Clear (Clear (suc n)) t (clear (suc (suc n)) refl) refl x

pub set_capacity_statement : (all : List TokenKind) → Build all production.SetCapacityStatement
unfolding body_of head_of
set_capacity_statement all n (t, (x, (k, _))) =
    single token.SetCapacity (SetCapacity (suc n) (suc (suc n))) t (set_capacity (suc (suc (suc n))) refl) refl (x, k)

pub schedule_statement : (all : List TokenKind) → Build all production.ScheduleStatement
unfolding body_of head_of
schedule_statement all n (t, (u, (h, (k, (o, (a, (c, (s, (w, (f, _)))))))))) =
    let handle = suc n + length u.tokens in
    let opening = suc (suc (suc handle)) in
    let closed = opening + length a.tokens in
    let end = suc closed + length s.tokens + length w.tokens + length f.tokens in
    let rest = on action.Name handle ∷ on action.Name (suc handle) ∷ on action.OpenArguments opening
    ∷ a.events ++ (on action.CloseArguments closed ∷ s.events ++ (w.events ++ (f.events ++ on action.ScheduleStatement end ∷ []))) in
    single token.Schedule (Schedule u.means.auto handle (suc handle) a.means.args s.means.sizes w.means.names f.means.names) t
    (schedule u.means.at opening closed end a.events s.events w.events f.events a.means.spells s.means.spells w.means.spells f.means.spells
    (ap (λ y. y ++ rest) u.means.events_are))
    refl (h, k, a.means.stand, s.means.stand, w.means.stand, f.means.stand)

pub combine_statement : (all : List TokenKind) → Build all production.CombineStatement
unfolding body_of head_of
combine_statement all n (t, (x, (m, _))) =
    let end = suc (suc n) + length m.tokens in
    single token.Combine (Combine (suc n) m.means.names) t (combine (suc (suc n)) end
    (ap (λ y. on action.Name (suc n) ∷ on action.OpenNames (suc (suc n)) ∷ (y ++ on action.CombineStatement end ∷ [])) m.means.events_are)) refl
    (x, m.means.stand)

pub complete_statement : (all : List TokenKind) → Build all production.CompleteStatement
unfolding body_of head_of
complete_statement all n (t, (u, (x, _))) =
    let name = suc n + length u.tokens in
    single token.Complete (Complete u.means.auto name) t (complete u.means.at (suc name)
    (ap (λ y. y ++ on action.Name name ∷ on action.CompleteStatement (suc name) ∷ []) u.means.events_are)) refl x

pub dispose_statement : (all : List TokenKind) → Build all production.DisposeStatement
unfolding body_of head_of
dispose_statement all n (t, (d, _)) =
    single token.Dispose d.means.order t (and_no_more (λ es. SpellsOrder es d.means.order) d.events d.means.spells) d.means.no_block d.means.stands

pub print_statement : (all : List TokenKind) → Build all production.PrintStatement
unfolding body_of head_of
print_statement all n (t, (x, _)) =
    single token.Print (Print (suc n)) t (print (suc (suc n)) refl) refl x

pub flush_statement : (all : List TokenKind) → Build all production.FlushStatement
unfolding body_of head_of
flush_statement all n (t, _) =
    single token.Flush (Flush) t (flush (suc n) refl) refl tt

pub frame_statement : (all : List TokenKind) → Build all production.FrameStatement
unfolding body_of head_of
frame_statement all n (t, _) =
    single token.Frame (Frame) t (frame (suc n) refl) refl tt

pub repeat_statement : (all : List TokenKind) → Build all production.RepeatStatement
unfolding body_of head_of
repeat_statement all n (t, (k, (o, (l, (i, _))))) = record {
  first = token.Repeat;
  first_stands = t;
  said = inr (record {
    head = Repeat (suc n);
    inner = i.means.items;
    end = action.RepeatStatement;
    end_at = suc (suc (suc (suc (suc n))) + length i.tokens);
    heads = on action.Number (suc n) ∷ on action.OpenRepeat (suc (suc n)) ∷ [];
    inners = i.events;
    spells = repeated (suc (suc n)) refl;
    closes = refl;
    spells_inner = i.means.spells;
    events_are = refl;
    stands = k;
    inner_stands = i.means.stand;
  });
}

pub when_statement : (all : List TokenKind) → Build all production.WhenStatement
unfolding body_of head_of
when_statement all n (t, (x, (s, (v, (o, (l, (i, _))))))) =
    let sign = suc (suc n) in
    let opening = sign + length s.tokens + length v.tokens in
    let end = suc (suc (suc opening) + length i.tokens) in
    record {
      first = token.When;
      first_stands = t;
      said = inr (record {
        head = When (suc n) s.means.at v.means.number;
        inner = i.means.items;
        end = action.WhenStatement;
        end_at = end;
        heads = on action.Name (suc n) ∷ on action.Operator s.means.at ∷ v.events ++ on action.OpenWhen opening ∷ [];
        inners = i.events;
        spells = when opening v.events v.means.spells refl;
        closes = refl;
        spells_inner = i.means.spells;
        events_are = ap (λ y. on action.Name (suc n) ∷ (y ++ (v.events ++ on action.OpenWhen opening ∷ (i.events ++ on action.WhenStatement end ∷ []))))
            s.means.events_are
            ∙ ap (λ y. on action.Name (suc n) ∷ on action.Operator s.means.at ∷ y)
            (sym (append_assoc v.events (on action.OpenWhen opening ∷ []) (i.events ++ on action.WhenStatement end ∷ [])));
        stands = (x, (s.means.test, s.means.stands, s.means.is_test), v.means.stands);
        inner_stands = i.means.stand;
      });
    }

-- A walk over the events of a file, item by item, with the blocks that are open.
use Rattle.std.proofs.Common.{◌≡◌, ℕ, suc, ◌+◌, ◌-◌, ◌<◌, ◌≤◌, ◌⊎◌, inl, inr, Bool, true, false, List, [], ◌∷◌, ◌++◌, length, take, drop, take_all, length-append, length-drop, get_or, drop-cons, add-one, None, Some, refl, sym, ◌∙◌, ap, subst, arith, append_assoc}
use Rattle.std.proofs.lemmas.List.{drop-drop, drop_all}
use Rattle.std.proofs.Math.Seq.{drop-append_seam, take-append_seam}
use Rattle.frame_grammar.specs.declared.symbols.Action.{Action}
use Rattle.frame_grammar.specs.declared.symbols.Action.TheVariants as action
use Rattle.frame_grammar.specs.declared.symbols.Event.{Event}
use Rattle.kernel_raw.specs.RawEvents.{on, opening}
use Rattle.script_text.specs.declared.build_item.RawItem.TheVariants as item
use Rattle.script_text.specs.Items.{SpellsOpen, outside, inside, LeadsKernel, LeadsSingle, LeadsBlock, LeadsOut, LeadsOrder, Leads, IsOpen}
use Rattle.script_text.specs.Raw.{OrderForm, Repeat, When, RawItems, Nothing, Kernel, Single, Block, form_of}
use Rattle.script_text.specs.Events.{closing, BeginsOrder, BeginsKernel, nothing, kernel, single, block}
use Rattle.script_text.specs.declared.raw.RawOrder.{RawOrder}

-- What the next event begins or ends, and what is left behind it. At a statement with a block the items of the block are left before those
-- behind it.
pub data NextItem : Event → List Event → List RawItems → Type 0 where
  a_kernel : {events : List Event} {more : RawItems} {around : List RawItems} (parallel : Bool) (at : ℕ)
      (begun : BeginsKernel (on (opening parallel) at ∷ events)) →
      SpellsOpen begun.rest (more ∷ around) →
      NextItem (on (opening parallel) at) events (Kernel begun.events begun.form more ∷ around)
  a_single : {events : List Event} {more : RawItems} {around : List RawItems} (at : ℕ) (begun : BeginsOrder events) →
      closing begun.form ≡ None → SpellsOpen begun.rest (more ∷ around) →
      NextItem (on action.StartStatement at) events (Single at begun.form more ∷ around)
  a_block : {events : List Event} {inner more : RawItems} {around : List RawItems} (at : ℕ) (end : Action) (begun : BeginsOrder events) →
      closing begun.form ≡ Some end → SpellsOpen begun.rest (inner ∷ more ∷ around) →
      NextItem (on action.StartStatement at) events (Block at begun.form inner more ∷ around)
  an_end : {events : List Event} {more : RawItems} {around : List RawItems} (end : Action) (q : ℕ) (head : OrderForm) →
      closing head ≡ Some end → SpellsOpen events (more ∷ around) →
      NextItem (on end q) events (Nothing ∷ more ∷ around)

-- No event is left, or there is a next one.
pub data Walk : List Event → List RawItems → Type 0 where
  finished : Walk [] (Nothing ∷ [])
  goes_on : {e : Event} {es : List Event} {items : List RawItems} → NextItem e es items → Walk (e ∷ es) items

walk_as : (events events' : List Event) (items : List RawItems) → events ≡ events' → Walk events' items → Walk events items
walk_as events events' items e w = subst (λ x. Walk x items) (sym e) w

a_block's : (hs is rest behind : List Event) (e : Event) → (hs ++ (is ++ e ∷ rest)) ++ behind ≡ hs ++ (is ++ e ∷ (rest ++ behind))
a_block's hs is rest behind e = append_assoc hs (is ++ e ∷ rest) behind ∙ ap (λ x. hs ++ x) (append_assoc is (e ∷ rest) behind)

pub walk : {events : List Event} {items : List RawItems} → SpellsOpen events items → Walk events items
walk {events} (outside (nothing e)) = walk_as events [] (Nothing ∷ []) e finished
walk {events} {items} (outside (kernel {es = es} {k = form} rest k more e)) =
    let parts = on action.Name form.name ∷ k.params ++ on action.OpenBody k.body_at ∷ k.statements ++ on action.CloseKernel k.end_at ∷ [] in
    walk_as events (on (opening form.parallel) k.at ∷ parts ++ rest) items (e ∙ ap (λ x. x ++ rest) k.spelled)
    (goes_on (a_kernel form.parallel k.at (record { events = es; rest = rest; form = form; all_are = ap (λ x. x ++ rest) (sym k.spelled); spells = k })
    (outside more)))
walk {events} {items} (outside (single {at = at} {order = order} es rest s no_block more e)) =
    walk_as events (on action.StartStatement at ∷ es ++ rest) items e
    (goes_on (a_single at (record { events = es; rest = rest; form = order; all_are = refl; spells = s }) no_block (outside more)))
walk {events} {items} (outside (block {at = at} {head = head} end q hs is rest h closes inner more e)) =
    walk_as events (on action.StartStatement at ∷ hs ++ (is ++ on end q ∷ rest)) items e
    (goes_on (a_block at end (record { events = hs; rest = is ++ on end q ∷ rest; form = head; all_are = refl; spells = h }) closes
    (inside end q head is rest closes inner (outside more) refl)))
walk {events} {items} (inside end' q' head' is' rest' closes' (nothing e) around e') =
    walk_as events (on end' q' ∷ rest') items (e' ∙ ap (λ x. x ++ on end' q' ∷ rest') e) (goes_on (an_end end' q' head' closes' around))
walk {events} {items} (inside end' q' head' is' rest' closes' (single {at = at} {order = order} es rest s no_block more e) around e') =
    let behind = on end' q' ∷ rest' in
    walk_as events (on action.StartStatement at ∷ es ++ (rest ++ behind)) items
    (e' ∙ ap (λ x. x ++ behind) e ∙ ap (λ x. on action.StartStatement at ∷ x) (append_assoc es rest behind))
    (goes_on (a_single at (record { events = es; rest = rest ++ behind; form = order; all_are = refl; spells = s }) no_block
    (inside end' q' head' rest rest' closes' more around refl)))
walk {events} {items} (inside end' q' head' is' rest' closes' (block {at = at} {head = head} end q hs is rest h closes inner more e) around e') =
    let behind = on end' q' ∷ rest' in
    walk_as events (on action.StartStatement at ∷ hs ++ (is ++ on end q ∷ (rest ++ behind))) items
    (e' ∙ ap (λ x. x ++ behind) e ∙ ap (λ x. on action.StartStatement at ∷ x) (a_block's hs is rest behind (on end q)))
    (goes_on (a_block at end (record { events = hs; rest = is ++ on end q ∷ (rest ++ behind); form = head; all_are = refl; spells = h }) closes
    (inside end q head is (rest ++ behind) closes inner (inside end' q' head' rest rest' closes' more around refl) refl)))

-- WHICH EVENT IS NEXT

-- at the start of a statement one begins
pub begins_order : {e : Event} {es : List Event} {items : List RawItems} → NextItem e es items → e.action ≡ action.StartStatement → BeginsOrder es
begins_order (a_kernel true at begun left) e = absurd cc
begins_order (a_kernel false at begun left) e = absurd cc
begins_order (a_single at begun no_block left) e = begun
begins_order (a_block at end begun closes left) e = begun
begins_order (an_end end q (Repeat n) closes left) e = absurd cc
begins_order (an_end end q (When x s v) closes left) e = absurd cc
begins_order (an_end end q _ closes left) e = absurd cc

-- whether the event opens a kernel
abbrev pub opens_kernel : Action → Bool
opens_kernel action.OpenJob = true
opens_kernel action.OpenParallel = true
opens_kernel _ = false

pub begins_kernel : {e : Event} {es : List Event} {items : List RawItems} → NextItem e es items → opens_kernel e.action ≡ true → BeginsKernel (e ∷ es)
begins_kernel (a_kernel parallel at begun left) e = begun
begins_kernel (a_single at begun no_block left) e = absurd cc
begins_kernel (a_block at end begun closes left) e = absurd cc
begins_kernel (an_end end q (Repeat n) closes left) e = absurd cc
begins_kernel (an_end end q (When x s v) closes left) e = absurd cc
begins_kernel (an_end end q _ closes left) e = absurd cc

-- WHERE THE NEXT EVENTS STAND

-- the events from a place on, as a slice has them
pub left_is : (all : List Event) (at : ℕ) → take (length all - at) (drop at all) ≡ drop at all
left_is all at = take_all (length all - at) (drop at all) (omega (arith, length-drop at all))

-- the event at a place, and those behind it
pub event_at : (all : List Event) (at : ℕ) (d : Event) → at < length all → drop at all ≡ get_or all at d ∷ drop (at + 1) all
event_at all at d within = rw (add-one) (drop-cons all at d within)

pub no_event : (all : List Event) (at : ℕ) → at ≡ length all → drop at all ≡ []
no_event all at e = drop_all at all (omega arith)

next_left : (all es part rest : List Event) (at read : ℕ) (e : Event) → drop at all ≡ e ∷ es → es ≡ part ++ rest → read ≡ length part
    → drop (at + 1 + read) all ≡ rest
next_left all es part rest at read e here split len =
    sym (drop-drop read (at + 1) all)
    ∙ ap (drop read) (sym (drop-drop 1 at all) ∙ ap (drop 1) here ∙ split)
    ∙ ap (λ n. drop n (part ++ rest)) len
    ∙ drop-append_seam part rest

next_within : (all es part rest : List Event) (at read : ℕ) (e : Event) → drop at all ≡ e ∷ es → es ≡ part ++ rest → read ≡ length part
    → at + 1 + read ≤ length all
next_within all es part rest at read e here split len =
    let a : length all - at ≡ suc (length es) = sym (length-drop at all) ∙ ap length here in
    let b : length es ≡ length part + length rest = ap length split ∙ length-append part rest in
    omega arith

pub after_is : (all : List Event) (at : ℕ) → take (length all - (at + 1)) (drop (at + 1) all) ≡ drop (at + 1) all
after_is all at = left_is all (at + 1)

-- A STATEMENT

walk_here : (all es : List Event) (at : ℕ) (e : Event) (items : List RawItems) → drop at all ≡ e ∷ es → SpellsOpen (drop at all) items → Walk (e ∷ es) items
walk_here all es at e items here spells = subst (λ x. Walk x items) here (walk spells)

next_of : {e : Event} {es : List Event} {items : List RawItems} → Walk (e ∷ es) items → NextItem e es items
next_of (goes_on n) = n

pub kernel_opens : (a : Action) → (a ≡ action.OpenJob) ⊎ (a ≡ action.OpenParallel) → opens_kernel a ≡ true
kernel_opens a (inl e) = ap opens_kernel e
kernel_opens a (inr e) = ap opens_kernel e

pub no_kernel_opens : (a : Action) → (a ≡ action.OpenJob → ⊥) → (a ≡ action.OpenParallel → ⊥) → opens_kernel a ≡ true → ⊥
no_kernel_opens action.OpenJob job parallel e = job refl
no_kernel_opens action.OpenParallel job parallel e = parallel refl
no_kernel_opens _ job parallel e = cc

pub order_begins : (all es ys : List Event) (at : ℕ) (e : Event) (items : List RawItems) → drop at all ≡ e ∷ es → ys ≡ es → e.action ≡ action.StartStatement
    → SpellsOpen (drop at all) items → BeginsOrder ys
order_begins all es ys at e items here same starts spells = subst BeginsOrder (sym same)
    (begins_order (next_of (walk_here all es at e items here spells)) starts)

order_next : (all : List Event) (at : ℕ) (form : OrderForm) (read : ℕ) {e : Event} {es : List Event} {items : List RawItems} → NextItem e es items
    → drop at all ≡ e ∷ es → e.action ≡ action.StartStatement →
    ((b : BeginsOrder es) → form ≡ b.form) → ((b : BeginsOrder es) → read ≡ length b.events) → LeadsOrder all at e.place form (at + 1 + read) items
order_next all at form read (a_kernel true q begun left) here starts is len = absurd cc
order_next all at form read (a_kernel false q begun left) here starts is len = absurd cc
order_next all at form read {e} {es} (a_single {more = more} {around = around} q begun no_block left) here starts is len = (
  omega arith,
  next_within all es begun.events begun.rest at read e here begun.all_are (len begun),
  inl (record {
    more = more;
    around = around;
    no_block = ap closing (is begun) ∙ no_block;
    items_are = ap (λ f. Single q f more ∷ around) (sym (is begun));
    left = subst (λ x. SpellsOpen x (more ∷ around)) (sym (next_left all es begun.events begun.rest at read e here begun.all_are (len begun))) left;
  }),
)
order_next all at form read {e} {es} (a_block {inner = inner} {more = more} {around = around} q end begun closes left) here starts is len = (
  omega arith,
  next_within all es begun.events begun.rest at read e here begun.all_are (len begun),
  inr (record {
    end = end;
    inner = inner;
    more = more;
    around = around;
    closes = ap closing (is begun) ∙ closes;
    items_are = ap (λ f. Block q f inner more ∷ around) (sym (is begun));
    left = subst (λ x. SpellsOpen x (inner ∷ more ∷ around)) (sym (next_left all es begun.events begun.rest at read e here begun.all_are (len begun))) left;
  }),
)
order_next all at form read (an_end end q (Repeat n) closes left) here starts is len = absurd cc
order_next all at form read (an_end end q (When x s v) closes left) here starts is len = absurd cc
order_next all at form read (an_end end q _ closes left) here starts is len = absurd cc

pub order_leads : (all es ys : List Event) (at : ℕ) (e : Event) (items : List RawItems) (form : OrderForm) (read : ℕ) → drop at all ≡ e ∷ es → ys ≡ es
    → e.action ≡ action.StartStatement → SpellsOpen (drop at all) items →
    ((b : BeginsOrder ys) → form ≡ b.form) → ((b : BeginsOrder ys) → read ≡ length b.events) → LeadsOrder all at e.place form (at + 1 + read) items
order_leads all es ys at e items form read here same starts spells is len =
    order_next all at form read (next_of (walk_here all es at e items here spells)) here starts
    (subst (λ y. (b : BeginsOrder y) → form ≡ b.form) same is) (subst (λ y. (b : BeginsOrder y) → read ≡ length b.events) same len)

-- A KERNEL

pub kernel_begins : (all es ys : List Event) (at : ℕ) (e : Event) (items : List RawItems) → drop at all ≡ e ∷ es → ys ≡ drop at all
    → opens_kernel e.action ≡ true → SpellsOpen (drop at all) items → BeginsKernel ys
kernel_begins all es ys at e items here same opens spells = subst BeginsKernel (sym (same ∙ here))
    (begins_kernel (next_of (walk_here all es at e items here spells)) opens)

abbrev pub LeadsToKernel : (all : List Event) (at next : ℕ) → List RawItems → Type 0
LeadsToKernel all at next items = (at < next) × (next ≤ length all) × LeadsKernel all at next items

kernel_next : (all : List Event) (at len : ℕ) {e : Event} {es : List Event} {items : List RawItems} → NextItem e es items → drop at all ≡ e ∷ es
    → opens_kernel e.action ≡ true →
    ((b : BeginsKernel (e ∷ es)) → len ≡ length b.events) → LeadsToKernel all at (at + len) items
kernel_next all at len {e} {es} (a_kernel {more = more} {around = around} parallel q begun left) here opens count =
    let split = here ∙ begun.all_are in
    let size : len ≡ length begun.events = count begun in
    let some : length begun.events ≡ suc _ = ap length begun.spells.spelled in
    let a : length all - at ≡ length begun.events + length begun.rest = sym (length-drop at all) ∙ ap length split ∙ length-append begun.events begun.rest in
    let behind : drop (at + len) all ≡ begun.rest = sym (drop-drop len at all) ∙ ap (drop len) split ∙ ap (λ n. drop n (begun.events ++ begun.rest)) size
    ∙ drop-append_seam begun.events begun.rest in
    let minus : at + len - at ≡ length begun.events = omega arith in (
      omega arith,
      omega arith,
      record {
        events = begun.events;
        form = begun.form;
        more = more;
        around = around;
        items_are = refl;
        events_are = ap (λ n. take n (drop at all)) minus ∙ ap (take (length begun.events)) split ∙ take-append_seam begun.events begun.rest;
        spells = begun.spells;
        left = subst (λ x. SpellsOpen x (more ∷ around)) (sym behind) left;
      },
    )
kernel_next all at len (a_single q begun no_block left) here opens count = absurd cc
kernel_next all at len (a_block q end begun closes left) here opens count = absurd cc
kernel_next all at len (an_end end q (Repeat n) closes left) here opens count = absurd cc
kernel_next all at len (an_end end q (When x s v) closes left) here opens count = absurd cc
kernel_next all at len (an_end end q _ closes left) here opens count = absurd cc

pub kernel_leads : (all es ys : List Event) (at : ℕ) (e : Event) (items : List RawItems) (len : ℕ) → drop at all ≡ e ∷ es → ys ≡ drop at all
    → opens_kernel e.action ≡ true → SpellsOpen (drop at all) items →
    ((b : BeginsKernel ys) → len ≡ length b.events) → LeadsToKernel all at (at + len) items
kernel_leads all es ys at e items len here same opens spells count =
    kernel_next all at len (next_of (walk_here all es at e items here spells)) here opens
    (subst (λ y. (b : BeginsKernel y) → len ≡ length b.events) (same ∙ here) count)

-- AN END

-- what ends a block starts no statement, and opens no kernel
pub end_starts_none : (a : Action) → (a ≡ action.RepeatStatement) ⊎ (a ≡ action.WhenStatement) → a ≡ action.StartStatement → ⊥
end_starts_none a (inl e) starts = cc
end_starts_none a (inr e) starts = cc

pub end_opens_none : (a : Action) → (a ≡ action.RepeatStatement) ⊎ (a ≡ action.WhenStatement) → opens_kernel a ≡ true → ⊥
end_opens_none a (inl e) opens =
    let shut : opens_kernel a ≡ false = ap opens_kernel e in
    cc
end_opens_none a (inr e) opens =
    let shut : opens_kernel a ≡ false = ap opens_kernel e in
    cc

none_next : {e : Event} {es : List Event} {items : List RawItems} → NextItem e es items → (e.action ≡ action.StartStatement → ⊥)
    → (opens_kernel e.action ≡ true → ⊥) → (e.action ≡ action.RepeatStatement → ⊥) → (e.action ≡ action.WhenStatement → ⊥) → ⊥
none_next (a_kernel true q begun left) starts opens ends_repeat ends_when = opens refl
none_next (a_kernel false q begun left) starts opens ends_repeat ends_when = opens refl
none_next (a_single q begun no_block left) starts opens ends_repeat ends_when = starts refl
none_next (a_block q end begun closes left) starts opens ends_repeat ends_when = starts refl
none_next (an_end end q (Repeat n) closes left) starts opens ends_repeat ends_when = ends_repeat cc
none_next (an_end end q (When x s v) closes left) starts opens ends_repeat ends_when = ends_when cc
none_next (an_end end q _ closes left) starts opens ends_repeat ends_when = absurd cc

-- each event from which items are left is one of these
pub some_item : (all es : List Event) (at : ℕ) (e : Event) (items : List RawItems) → drop at all ≡ e ∷ es → (e.action ≡ action.StartStatement → ⊥)
    → (opens_kernel e.action ≡ true → ⊥) → (e.action ≡ action.RepeatStatement → ⊥) → (e.action ≡ action.WhenStatement → ⊥) →
    SpellsOpen (drop at all) items → ⊥
some_item all es at e items here starts opens ends_repeat ends_when spells =
    none_next (next_of (walk_here all es at e items here spells)) starts opens ends_repeat ends_when

out_next : (all : List Event) (at : ℕ) {e : Event} {es : List Event} {items : List RawItems} → NextItem e es items → drop at all ≡ e ∷ es
    → (e.action ≡ action.StartStatement → ⊥) → (opens_kernel e.action ≡ true → ⊥) →
    (at < at + 1) × (at + 1 ≤ length all) × LeadsOut all (at + 1) items
out_next all at (a_kernel true q begun left) here starts opens = absurd (opens refl)
out_next all at (a_kernel false q begun left) here starts opens = absurd (opens refl)
out_next all at (a_single q begun no_block left) here starts opens = absurd (starts refl)
out_next all at (a_block q end begun closes left) here starts opens = absurd (starts refl)
out_next all at {e} {es} (an_end {more = around} {around = more} end q head closes left) here starts opens =
    let a : length all - at ≡ suc (length es) = sym (length-drop at all) ∙ ap length here in (
      omega arith,
      omega arith,
      record {
        around = around;
        more = more;
        items_are = refl;
        left = subst (λ x. SpellsOpen x (around ∷ more))
            (sym (sym (drop-drop 1 at all) ∙ ap (drop 1) here)) left;
      },
    )

pub out_leads : (all es : List Event) (at : ℕ) (e : Event) (items : List RawItems) → drop at all ≡ e ∷ es → (e.action ≡ action.StartStatement → ⊥)
    → (opens_kernel e.action ≡ true → ⊥) → SpellsOpen (drop at all) items →
    (at < at + 1) × (at + 1 ≤ length all) × LeadsOut all (at + 1) items
out_leads all es at e items here starts opens spells = out_next all at (next_of (walk_here all es at e items here spells)) here starts opens

-- NOTHING

nothing_next : {items : List RawItems} → Walk [] items → items ≡ Nothing ∷ []
nothing_next finished = refl

pub nothing_leads : (xs : List Event) (items : List RawItems) → xs ≡ [] → SpellsOpen xs items → items ≡ Nothing ∷ []
nothing_leads xs items none spells = nothing_next (subst (λ x. Walk x items) none (walk spells))

-- GOING ON

-- a place from which the events spell items
pub record GoesOn (all : List Event) (next : ℕ) : Type 0 where
  pub within : next ≤ length all
  pub spelled : IsOpen (drop next all)

pub after_kernel : (all : List Event) (at next : ℕ) (items : List RawItems) → Leads all at (item.Kernel next) items → GoesOn all next
after_kernel all at next items leads = record { within = leads.1; spelled = record { items = leads.2.more ∷ leads.2.around; spells = leads.2.left } }

pub after_end : (all : List Event) (at next : ℕ) (items : List RawItems) → Leads all at (item.End next) items → GoesOn all next
after_end all at next items leads = record { within = leads.1; spelled = record { items = leads.2.around ∷ leads.2.more; spells = leads.2.left } }

after_either : (all : List Event) (first : ℕ) (form : OrderForm) (next : ℕ) (items : List RawItems)
    → LeadsSingle all first form next items ⊎ LeadsBlock all first form next items → IsOpen (drop next all)
after_either all first form next items (inl one) = record { items = one.more ∷ one.around; spells = one.left }
after_either all first form next items (inr one) = record { items = one.inner ∷ one.more ∷ one.around; spells = one.left }

pub after_order : (all : List Event) (at first : ℕ) (order : RawOrder) (next : ℕ) (items : List RawItems) → Leads all at (item.Order first order next) items
    → GoesOn all next
after_order all at first order next items leads = record { within = leads.1; spelled = after_either all first (form_of order) next items leads.2 }

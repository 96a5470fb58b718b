-- Statements of which all notes are known: what they are, and how many events they have.
use Rattle.std.proofs.Common.{◌≡◌, ◌+◌, ◌≤◌, List, ◌∷◌, ◌++◌, Some, length, drop, length-append, sym, ◌∙◌, ap, arith}
use Rattle.frame_grammar.specs.declared.symbols.Action.{Action}
use Rattle.frame_grammar.specs.declared.symbols.Event.{Event}
use Rattle.frame_parser.specs.declared.note.Note.{Note}
use Rattle.frame_parser.specs.Notes.{event_of, events_of}
use Rattle.kernel_raw.specs.RawEvents.{on}
use Rattle.std.proofs.Common.{get_or}
use Rattle.script_text.specs.Raw.{OrderForm}
use Rattle.script_text.specs.Events.{BeginsOrder}
use Rattle.script_text.specs.Reading.{nothing_read, order_from}
use Rattle.script_text.proofs.Noted.{noted_next}
use Rattle.script_text.proofs.Reading.Orders.{begun_read}

-- the first six events
pub first_six : (notes : List Note) (a b c d e f : Event) (k l m n o p : Note) → 6 ≤ length notes →
    a ≡ event_of (get_or notes 0 k) → b ≡ event_of (get_or notes 1 l) → c ≡ event_of (get_or notes 2 m) → d ≡ event_of (get_or notes 3 n) →
    e ≡ event_of (get_or notes 4 o) → f ≡ event_of (get_or notes 5 p) →
    events_of notes ≡ a ∷ b ∷ c ∷ d ∷ e ∷ f ∷ drop 6 (events_of notes)
first_six notes a b c d e f k l m n o p many a_is b_is c_is d_is e_is f_is =
    noted_next notes 0 k a (omega (arith, many)) a_is
    ∙ ap (λ x. a ∷ x) (noted_next notes 1 l b (omega (arith, many)) b_is)
    ∙ ap (λ x. a ∷ b ∷ x) (noted_next notes 2 m c (omega (arith, many)) c_is)
    ∙ ap (λ x. a ∷ b ∷ c ∷ x) (noted_next notes 3 n d (omega (arith, many)) d_is)
    ∙ ap (λ x. a ∷ b ∷ c ∷ d ∷ x) (noted_next notes 4 o e (omega (arith, many)) e_is)
    ∙ ap (λ x. a ∷ b ∷ c ∷ d ∷ e ∷ x) (noted_next notes 5 p f (omega (arith, many)) f_is)

-- they are read by what they do
pub read_by : (a b c d e f : Event) (rest : List Event) {g h i j k l : Action} → a.action ≡ g → b.action ≡ h → c.action ≡ i → d.action ≡ j →
    e.action ≡ k → f.action ≡ l →
    order_from nothing_read (a ∷ b ∷ c ∷ d ∷ e ∷ f ∷ rest)
    ≡ order_from nothing_read (on g a.place ∷ on h b.place ∷ on i c.place ∷ on j d.place ∷ on k e.place ∷ on l f.place ∷ rest)
read_by a b c d e f rest {g} {h} {i} {j} {k} {l} p q r s t u =
    ap (λ x. order_from nothing_read (on x a.place ∷ b ∷ c ∷ d ∷ e ∷ f ∷ rest)) p
    ∙ ap (λ x. order_from nothing_read (on g a.place ∷ on x b.place ∷ c ∷ d ∷ e ∷ f ∷ rest)) q
    ∙ ap (λ x. order_from nothing_read (on g a.place ∷ on h b.place ∷ on x c.place ∷ d ∷ e ∷ f ∷ rest)) r
    ∙ ap (λ x. order_from nothing_read (on g a.place ∷ on h b.place ∷ on i c.place ∷ on x d.place ∷ e ∷ f ∷ rest)) s
    ∙ ap (λ x. order_from nothing_read (on g a.place ∷ on h b.place ∷ on i c.place ∷ on j d.place ∷ on x e.place ∷ f ∷ rest)) t
    ∙ ap (λ x. order_from nothing_read (on g a.place ∷ on h b.place ∷ on i c.place ∷ on j d.place ∷ on k e.place ∷ on x f.place ∷ rest)) u

-- a statement whose events are read as a form has that form, and so many events
pub is_known : (all events rest : List Event) (form : OrderForm) → all ≡ events ++ rest → order_from nothing_read (events ++ rest) ≡ Some (form, rest) →
    (begun : BeginsOrder all) → (form ≡ begun.form) × (length events ≡ length begun.events)
is_known all events rest form split read begun =
    let found : OrderForm × List Event = (form, rest) in
    let wanted : OrderForm × List Event = (begun.form, begun.rest) in
    let both : Some found ≡ Some wanted = sym read ∙ ap (λ x. order_from nothing_read x) (sym split) ∙ begun_read all begun in
    let pairs : found ≡ wanted = cc in
    let behind : rest ≡ begun.rest = ap (λ p. p.1) pairs in
    let a : length all ≡ length events + length rest = ap length split ∙ length-append events rest in
    let b : length all ≡ length begun.events + length begun.rest = ap length begun.all_are ∙ length-append begun.events begun.rest in
    (ap (λ p. p.0) pairs, omega (arith, a, b, ap length behind))

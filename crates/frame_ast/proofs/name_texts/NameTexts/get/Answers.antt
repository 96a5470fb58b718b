use Rattle.std.proofs.Common.{rules, ◌≡◌, ap, sym, ◌∙◌, subst, ◌-◌, ◌<◌, ◌≤◌, length, take, drop, Some, slice_get, slice_index_or}
use Rattle.std.specs.Prelude.{IsUtf8}
use Rattle.std.proofs.lemmas.Option.{slice_get_past}
use Rattle.frame_ast.specs.JoinedTexts.{texts_from, start_at}
use Rattle.frame_ast.proofs.JoinedTexts.{how_many, stands_at, text_at}
use Rattle.frame_ast.proofs.name_texts.NameTexts.get.Goals as goal

pub returns-then-place-ends : goal.returns-then-place-ends
returns-then-place-ends c =
    let inside = c.self.inside in
    let texts = texts_from 0 inside.bytes.items inside.ends.items in
    let counted : length texts ≡ length inside.ends.items = how_many 0 inside.bytes.items inside.ends.items in
    let past : length inside.ends.items ≤ c.args.place = search rules in
    sym (slice_get_past texts c.args.place (subst (λ n. n ≤ c.args.place) (sym counted) past))
    ∙ ap (λ texts. slice_get texts c.args.place) c.self.view_is

pub text_between-requires-clause-order : goal.text_between-requires-clause-order
text_between-requires-clause-order c =
    let inside = c.self.inside in
    let ends : c.as_slice-ends.result.now ≡ inside.ends.items = search rules in
    let within : c.args.place < length inside.ends.items = search rules in
    let start : c.start_of.result ≡ start_at 0 inside.ends.items c.args.place = search rules in
    let stands = stands_at 0 inside.bytes.items inside.ends.items c.args.place c.self.invariant within in
    subst (λ it. it ≤ slice_index_or c.as_slice-ends.result.now c.args.place 0) (sym start)
    (subst (λ it. start_at 0 inside.ends.items c.args.place ≤ slice_index_or it c.args.place 0) (sym ends) stands.0)

pub text_between-requires-clause-within : goal.text_between-requires-clause-within
text_between-requires-clause-within c =
    let inside = c.self.inside in
    let ends : c.as_slice-ends.result.now ≡ inside.ends.items = search rules in
    let within : c.args.place < length inside.ends.items = search rules in
    let bytes : c.deref.result.now ≡ inside.bytes.items = search rules in
    let stands = stands_at 0 inside.bytes.items inside.ends.items c.args.place c.self.invariant within in
    subst (λ it. slice_index_or c.as_slice-ends.result.now c.args.place 0 ≤ length it) (sym bytes)
    (subst (λ it. slice_index_or it c.args.place 0 ≤ length inside.bytes.items) (sym ends) stands.1)

pub text_between-requires-clause-text : goal.text_between-requires-clause-text
text_between-requires-clause-text c =
    let inside = c.self.inside in
    let ends : c.as_slice-ends.result.now ≡ inside.ends.items = search rules in
    let within : c.args.place < length inside.ends.items = search rules in
    let start : c.start_of.result ≡ start_at 0 inside.ends.items c.args.place = search rules in
    let bytes : c.deref.result.now ≡ inside.bytes.items = search rules in
    let stands = stands_at 0 inside.bytes.items inside.ends.items c.args.place c.self.invariant within in
    subst (λ it. IsUtf8 (take (slice_index_or c.as_slice-ends.result.now c.args.place 0 - c.start_of.result) (drop c.start_of.result it))) (sym bytes)
    (subst (λ it. IsUtf8 (take (slice_index_or c.as_slice-ends.result.now c.args.place 0 - it) (drop it inside.bytes.items))) (sym start)
    (subst (λ it. IsUtf8 (take (slice_index_or it c.args.place 0 - start_at 0 inside.ends.items c.args.place)
    (drop (start_at 0 inside.ends.items c.args.place) inside.bytes.items))) (sym ends) stands.2))

pub returns : goal.returns
returns c =
    let inside = c.self.inside in
    let within : c.args.place < length inside.ends.items = search rules in
    let start : c.start_of.result ≡ start_at 0 inside.ends.items c.args.place = search rules in
    let text : c.text_between.result.now
    ≡ take (slice_index_or inside.ends.items c.args.place 0 - start_at 0 inside.ends.items c.args.place)
    (drop (start_at 0 inside.ends.items c.args.place) inside.bytes.items) = search rules in
    ap Some text
    ∙ sym (text_at 0 inside.bytes.items inside.ends.items c.args.place within)
    ∙ ap (λ texts. slice_get texts c.args.place) c.self.view_is

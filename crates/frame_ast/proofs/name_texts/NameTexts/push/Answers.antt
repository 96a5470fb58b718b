use Rattle.std.proofs.Common.{rules, ◌≡◌, ap, sym, ◌∙◌, ◌++◌, ◌∷◌, [], subst, length}
use Rattle.frame_ast.specs.JoinedTexts.{texts_from, StandIn}
use Rattle.frame_ast.proofs.JoinedTexts.{stand_with_one_more, texts_with_one_more}
use Rattle.frame_ast.proofs.name_texts.NameTexts.push.Goals as goal

pub invariant_of-self-2 : goal.invariant_of-self-2
invariant_of-self-2 c =
    let inside = c.self.inside in
    let bytes : c.extend_from_slice.new.self.items ≡ inside.bytes.items ++ c.args.text.now = search rules in
    let ends : c.push_reserved.new.self.items ≡ inside.ends.items ++ length (inside.bytes.items ++ c.args.text.now) ∷ [] = search rules in
    let stand = stand_with_one_more 0 inside.bytes.items inside.ends.items c.args.text.now c.self.invariant c.utf8.text in
    subst (λ it. StandIn 0 it c.push_reserved.new.self.items) (sym bytes) (subst (StandIn 0 (inside.bytes.items ++ c.args.text.now)) (sym ends) stand)

pub returns : goal.returns
returns c =
    let inside = c.self.inside in
    let bytes : c.extend_from_slice.new.self.items ≡ inside.bytes.items ++ c.args.text.now = search rules in
    let ends : c.push_reserved.new.self.items ≡ inside.ends.items ++ length (inside.bytes.items ++ c.args.text.now) ∷ [] = search rules in
    ap (λ it. texts_from 0 it c.push_reserved.new.self.items) bytes
    ∙ ap (texts_from 0 (inside.bytes.items ++ c.args.text.now)) ends
    ∙ texts_with_one_more 0 inside.bytes.items inside.ends.items c.args.text.now c.self.invariant
    ∙ ap (λ it. it ++ c.args.text.now ∷ []) c.self.view_is

use Rattle.std.proofs.Common.{ap, ◌∙◌, map, string_bytes}
use Rattle.std.proofs.lemmas.Result.{IfErr-weaker, IfOk-weaker}
use Rattle.clap.specs.Words.{App, is_simple, matches_of, takes, found_of}
use Rattle.command_words.proofs.AppLemmas.{app_is_simple}
use Rattle.command_words.proofs.TakenLemmas.{takes_words, has_items}
use Rattle.command_words.proofs.parsing.parse.Goals as goal

-- the parse succeeds with what the words spell
pub returns-clause-ok : goal.returns-clause-ok
returns-clause-ok c =
    let parse = c.try_get_matches_from in
    let texts = map string_bytes c.args.words.now in
    IfOk-weaker parse.result _ _ (λ m h. has_items texts (found_of m) c.requires
    ((h (ap is_simple c.in_ok-frame_command.ensures ∙ app_is_simple)).0 ∙ ap (λ (a : App). matches_of a texts) c.in_ok-frame_command.ensures))
    parse.ensures.matches

-- and fails only for want of memory
pub returns-clause-err : goal.returns-clause-err
returns-clause-err c =
    let parse = c.try_get_matches_from in
    let texts = map string_bytes c.args.words.now in
    IfErr-weaker parse.result _ _ (λ e h. h (ap (λ (a : App). takes a texts) c.in_ok-frame_command.ensures ∙ takes_words texts c.requires)) parse.ensures.passes

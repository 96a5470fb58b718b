use Rattle.std.proofs.Common.{arith, refl, [], ◌∷◌, Some, None, drop}
use Rattle.frame_ast.specs.declared.script.Life.TheVariants.{Persistent}
use Rattle.frame_parser.specs.Notes.{events_of}
use Rattle.script_text.specs.Raw.{NewArray, NewList, NewReference, NewMap, Set, Add, Put, Remove, Slice, View, Print, Dispose, Flush}
use Rattle.script_text.specs.Known.{plain}
use Rattle.script_text.proofs.Reading.KnownOrders.{first_six, read_by, is_known}
use Rattle.script_text.proofs.known_orders.known_order.Goals as goal

pub returns-in-Name-Number-LifeNone-NoValues-ArrayStatement-default-clause-form :
    goal.returns-in-Name-Number-LifeNone-NoValues-ArrayStatement-default-clause-form
returns-in-Name-Number-LifeNone-NoValues-ArrayStatement-default-clause-form c begun =
    let all = events_of c.args.notes.now in
    let first = c.event-first.result in
    let second = c.event-second.result in
    let third = c.event-third.result in
    let fourth = c.event-fourth.result in
    let fifth = c.event-fifth.result in
    let sixth = c.event-sixth.result in
    let arm = c.in-Name-Number-LifeNone-NoValues-ArrayStatement-default in
    let split = first_six c.args.notes.now first second third fourth fifth sixth _ _ _ _ _ _ (omega (arith, c.if-notes-lt6.false))
    c.event-first.ensures c.event-second.ensures c.event-third.ensures c.event-fourth.ensures c.event-fifth.ensures c.event-sixth.ensures in
    (is_known all (first ∷ second ∷ third ∷ fourth ∷ fifth ∷ []) (sixth ∷ drop 6 all)
    (NewArray first.place second.place Persistent None) split
    (read_by first second third fourth fifth sixth (drop 6 all) arm.is-0 arm.is-1 arm.is-2 arm.is-3 arm.is-4 refl) begun).0

pub returns-in-Name-Number-LifeNone-NoValues-ArrayStatement-default-clause-read :
    goal.returns-in-Name-Number-LifeNone-NoValues-ArrayStatement-default-clause-read
returns-in-Name-Number-LifeNone-NoValues-ArrayStatement-default-clause-read c begun =
    let all = events_of c.args.notes.now in
    let first = c.event-first.result in
    let second = c.event-second.result in
    let third = c.event-third.result in
    let fourth = c.event-fourth.result in
    let fifth = c.event-fifth.result in
    let sixth = c.event-sixth.result in
    let arm = c.in-Name-Number-LifeNone-NoValues-ArrayStatement-default in
    let split = first_six c.args.notes.now first second third fourth fifth sixth _ _ _ _ _ _ (omega (arith, c.if-notes-lt6.false))
    c.event-first.ensures c.event-second.ensures c.event-third.ensures c.event-fourth.ensures c.event-fifth.ensures c.event-sixth.ensures in
    (is_known all (first ∷ second ∷ third ∷ fourth ∷ fifth ∷ []) (sixth ∷ drop 6 all)
    (NewArray first.place second.place Persistent None) split
    (read_by first second third fourth fifth sixth (drop 6 all) arm.is-0 arm.is-1 arm.is-2 arm.is-3 arm.is-4 refl) begun).1

pub returns-in-Name-Number-LifeNone-ListStatement-default-default-clause-form :
    goal.returns-in-Name-Number-LifeNone-ListStatement-default-default-clause-form
returns-in-Name-Number-LifeNone-ListStatement-default-default-clause-form c begun =
    let all = events_of c.args.notes.now in
    let first = c.event-first.result in
    let second = c.event-second.result in
    let third = c.event-third.result in
    let fourth = c.event-fourth.result in
    let fifth = c.event-fifth.result in
    let sixth = c.event-sixth.result in
    let arm = c.in-Name-Number-LifeNone-ListStatement-default-default in
    let split = first_six c.args.notes.now first second third fourth fifth sixth _ _ _ _ _ _ (omega (arith, c.if-notes-lt6.false))
    c.event-first.ensures c.event-second.ensures c.event-third.ensures c.event-fourth.ensures c.event-fifth.ensures c.event-sixth.ensures in
    (is_known all (first ∷ second ∷ third ∷ fourth ∷ []) (fifth ∷ sixth ∷ drop 6 all)
    (NewList first.place second.place Persistent) split
    (read_by first second third fourth fifth sixth (drop 6 all) arm.is-0 arm.is-1 arm.is-2 arm.is-3 refl refl) begun).0

pub returns-in-Name-Number-LifeNone-ListStatement-default-default-clause-read :
    goal.returns-in-Name-Number-LifeNone-ListStatement-default-default-clause-read
returns-in-Name-Number-LifeNone-ListStatement-default-default-clause-read c begun =
    let all = events_of c.args.notes.now in
    let first = c.event-first.result in
    let second = c.event-second.result in
    let third = c.event-third.result in
    let fourth = c.event-fourth.result in
    let fifth = c.event-fifth.result in
    let sixth = c.event-sixth.result in
    let arm = c.in-Name-Number-LifeNone-ListStatement-default-default in
    let split = first_six c.args.notes.now first second third fourth fifth sixth _ _ _ _ _ _ (omega (arith, c.if-notes-lt6.false))
    c.event-first.ensures c.event-second.ensures c.event-third.ensures c.event-fourth.ensures c.event-fifth.ensures c.event-sixth.ensures in
    (is_known all (first ∷ second ∷ third ∷ fourth ∷ []) (fifth ∷ sixth ∷ drop 6 all)
    (NewList first.place second.place Persistent) split
    (read_by first second third fourth fifth sixth (drop 6 all) arm.is-0 arm.is-1 arm.is-2 arm.is-3 refl refl) begun).1

pub returns-in-Name-LifeNone-Number-PlainNumber-ReferenceStatement-default-clause-form :
    goal.returns-in-Name-LifeNone-Number-PlainNumber-ReferenceStatement-default-clause-form
returns-in-Name-LifeNone-Number-PlainNumber-ReferenceStatement-default-clause-form c begun =
    let all = events_of c.args.notes.now in
    let first = c.event-first.result in
    let second = c.event-second.result in
    let third = c.event-third.result in
    let fourth = c.event-fourth.result in
    let fifth = c.event-fifth.result in
    let sixth = c.event-sixth.result in
    let arm = c.in-Name-LifeNone-Number-PlainNumber-ReferenceStatement-default in
    let split = first_six c.args.notes.now first second third fourth fifth sixth _ _ _ _ _ _ (omega (arith, c.if-notes-lt6.false))
    c.event-first.ensures c.event-second.ensures c.event-third.ensures c.event-fourth.ensures c.event-fifth.ensures c.event-sixth.ensures in
    (is_known all (first ∷ second ∷ third ∷ fourth ∷ fifth ∷ []) (sixth ∷ drop 6 all)
    (NewReference first.place Persistent (Some (plain third.place))) split
    (read_by first second third fourth fifth sixth (drop 6 all) arm.is-0 arm.is-1 arm.is-2 arm.is-3 arm.is-4 refl) begun).0

pub returns-in-Name-LifeNone-Number-PlainNumber-ReferenceStatement-default-clause-read :
    goal.returns-in-Name-LifeNone-Number-PlainNumber-ReferenceStatement-default-clause-read
returns-in-Name-LifeNone-Number-PlainNumber-ReferenceStatement-default-clause-read c begun =
    let all = events_of c.args.notes.now in
    let first = c.event-first.result in
    let second = c.event-second.result in
    let third = c.event-third.result in
    let fourth = c.event-fourth.result in
    let fifth = c.event-fifth.result in
    let sixth = c.event-sixth.result in
    let arm = c.in-Name-LifeNone-Number-PlainNumber-ReferenceStatement-default in
    let split = first_six c.args.notes.now first second third fourth fifth sixth _ _ _ _ _ _ (omega (arith, c.if-notes-lt6.false))
    c.event-first.ensures c.event-second.ensures c.event-third.ensures c.event-fourth.ensures c.event-fifth.ensures c.event-sixth.ensures in
    (is_known all (first ∷ second ∷ third ∷ fourth ∷ fifth ∷ []) (sixth ∷ drop 6 all)
    (NewReference first.place Persistent (Some (plain third.place))) split
    (read_by first second third fourth fifth sixth (drop 6 all) arm.is-0 arm.is-1 arm.is-2 arm.is-3 arm.is-4 refl) begun).1

pub returns-in-Name-Number-LifeNone-MapStatement-default-default-clause-form :
    goal.returns-in-Name-Number-LifeNone-MapStatement-default-default-clause-form
returns-in-Name-Number-LifeNone-MapStatement-default-default-clause-form c begun =
    let all = events_of c.args.notes.now in
    let first = c.event-first.result in
    let second = c.event-second.result in
    let third = c.event-third.result in
    let fourth = c.event-fourth.result in
    let fifth = c.event-fifth.result in
    let sixth = c.event-sixth.result in
    let arm = c.in-Name-Number-LifeNone-MapStatement-default-default in
    let split = first_six c.args.notes.now first second third fourth fifth sixth _ _ _ _ _ _ (omega (arith, c.if-notes-lt6.false))
    c.event-first.ensures c.event-second.ensures c.event-third.ensures c.event-fourth.ensures c.event-fifth.ensures c.event-sixth.ensures in
    (is_known all (first ∷ second ∷ third ∷ fourth ∷ []) (fifth ∷ sixth ∷ drop 6 all)
    (NewMap first.place second.place Persistent) split
    (read_by first second third fourth fifth sixth (drop 6 all) arm.is-0 arm.is-1 arm.is-2 arm.is-3 refl refl) begun).0

pub returns-in-Name-Number-LifeNone-MapStatement-default-default-clause-read :
    goal.returns-in-Name-Number-LifeNone-MapStatement-default-default-clause-read
returns-in-Name-Number-LifeNone-MapStatement-default-default-clause-read c begun =
    let all = events_of c.args.notes.now in
    let first = c.event-first.result in
    let second = c.event-second.result in
    let third = c.event-third.result in
    let fourth = c.event-fourth.result in
    let fifth = c.event-fifth.result in
    let sixth = c.event-sixth.result in
    let arm = c.in-Name-Number-LifeNone-MapStatement-default-default in
    let split = first_six c.args.notes.now first second third fourth fifth sixth _ _ _ _ _ _ (omega (arith, c.if-notes-lt6.false))
    c.event-first.ensures c.event-second.ensures c.event-third.ensures c.event-fourth.ensures c.event-fifth.ensures c.event-sixth.ensures in
    (is_known all (first ∷ second ∷ third ∷ fourth ∷ []) (fifth ∷ sixth ∷ drop 6 all)
    (NewMap first.place second.place Persistent) split
    (read_by first second third fourth fifth sixth (drop 6 all) arm.is-0 arm.is-1 arm.is-2 arm.is-3 refl refl) begun).1

pub returns-in-Name-Name-Number-Number-SliceStatement-default-clause-form : goal.returns-in-Name-Name-Number-Number-SliceStatement-default-clause-form
returns-in-Name-Name-Number-Number-SliceStatement-default-clause-form c begun =
    let all = events_of c.args.notes.now in
    let first = c.event-first.result in
    let second = c.event-second.result in
    let third = c.event-third.result in
    let fourth = c.event-fourth.result in
    let fifth = c.event-fifth.result in
    let sixth = c.event-sixth.result in
    let arm = c.in-Name-Name-Number-Number-SliceStatement-default in
    let split = first_six c.args.notes.now first second third fourth fifth sixth _ _ _ _ _ _ (omega (arith, c.if-notes-lt6.false))
    c.event-first.ensures c.event-second.ensures c.event-third.ensures c.event-fourth.ensures c.event-fifth.ensures c.event-sixth.ensures in
    (is_known all (first ∷ second ∷ third ∷ fourth ∷ fifth ∷ []) (sixth ∷ drop 6 all)
    (Slice first.place second.place third.place fourth.place) split
    (read_by first second third fourth fifth sixth (drop 6 all) arm.is-0 arm.is-1 arm.is-2 arm.is-3 arm.is-4 refl) begun).0

pub returns-in-Name-Name-Number-Number-SliceStatement-default-clause-read : goal.returns-in-Name-Name-Number-Number-SliceStatement-default-clause-read
returns-in-Name-Name-Number-Number-SliceStatement-default-clause-read c begun =
    let all = events_of c.args.notes.now in
    let first = c.event-first.result in
    let second = c.event-second.result in
    let third = c.event-third.result in
    let fourth = c.event-fourth.result in
    let fifth = c.event-fifth.result in
    let sixth = c.event-sixth.result in
    let arm = c.in-Name-Name-Number-Number-SliceStatement-default in
    let split = first_six c.args.notes.now first second third fourth fifth sixth _ _ _ _ _ _ (omega (arith, c.if-notes-lt6.false))
    c.event-first.ensures c.event-second.ensures c.event-third.ensures c.event-fourth.ensures c.event-fifth.ensures c.event-sixth.ensures in
    (is_known all (first ∷ second ∷ third ∷ fourth ∷ fifth ∷ []) (sixth ∷ drop 6 all)
    (Slice first.place second.place third.place fourth.place) split
    (read_by first second third fourth fifth sixth (drop 6 all) arm.is-0 arm.is-1 arm.is-2 arm.is-3 arm.is-4 refl) begun).1

pub returns-in-Name-Name-ViewStatement-default-default-default-clause-form :
    goal.returns-in-Name-Name-ViewStatement-default-default-default-clause-form
returns-in-Name-Name-ViewStatement-default-default-default-clause-form c begun =
    let all = events_of c.args.notes.now in
    let first = c.event-first.result in
    let second = c.event-second.result in
    let third = c.event-third.result in
    let fourth = c.event-fourth.result in
    let fifth = c.event-fifth.result in
    let sixth = c.event-sixth.result in
    let arm = c.in-Name-Name-ViewStatement-default-default-default in
    let split = first_six c.args.notes.now first second third fourth fifth sixth _ _ _ _ _ _ (omega (arith, c.if-notes-lt6.false))
    c.event-first.ensures c.event-second.ensures c.event-third.ensures c.event-fourth.ensures c.event-fifth.ensures c.event-sixth.ensures in
    (is_known all (first ∷ second ∷ third ∷ []) (fourth ∷ fifth ∷ sixth ∷ drop 6 all)
    (View first.place second.place) split
    (read_by first second third fourth fifth sixth (drop 6 all) arm.is-0 arm.is-1 arm.is-2 refl refl refl) begun).0

pub returns-in-Name-Name-ViewStatement-default-default-default-clause-read :
    goal.returns-in-Name-Name-ViewStatement-default-default-default-clause-read
returns-in-Name-Name-ViewStatement-default-default-default-clause-read c begun =
    let all = events_of c.args.notes.now in
    let first = c.event-first.result in
    let second = c.event-second.result in
    let third = c.event-third.result in
    let fourth = c.event-fourth.result in
    let fifth = c.event-fifth.result in
    let sixth = c.event-sixth.result in
    let arm = c.in-Name-Name-ViewStatement-default-default-default in
    let split = first_six c.args.notes.now first second third fourth fifth sixth _ _ _ _ _ _ (omega (arith, c.if-notes-lt6.false))
    c.event-first.ensures c.event-second.ensures c.event-third.ensures c.event-fourth.ensures c.event-fifth.ensures c.event-sixth.ensures in
    (is_known all (first ∷ second ∷ third ∷ []) (fourth ∷ fifth ∷ sixth ∷ drop 6 all)
    (View first.place second.place) split
    (read_by first second third fourth fifth sixth (drop 6 all) arm.is-0 arm.is-1 arm.is-2 refl refl refl) begun).1

pub returns-in-Name-Number-PlainNumber-Number-PlainNumber-SetStatement-clause-form :
    goal.returns-in-Name-Number-PlainNumber-Number-PlainNumber-SetStatement-clause-form
returns-in-Name-Number-PlainNumber-Number-PlainNumber-SetStatement-clause-form c begun =
    let all = events_of c.args.notes.now in
    let first = c.event-first.result in
    let second = c.event-second.result in
    let third = c.event-third.result in
    let fourth = c.event-fourth.result in
    let fifth = c.event-fifth.result in
    let sixth = c.event-sixth.result in
    let arm = c.in-Name-Number-PlainNumber-Number-PlainNumber-SetStatement in
    let split = first_six c.args.notes.now first second third fourth fifth sixth _ _ _ _ _ _ (omega (arith, c.if-notes-lt6.false))
    c.event-first.ensures c.event-second.ensures c.event-third.ensures c.event-fourth.ensures c.event-fifth.ensures c.event-sixth.ensures in
    (is_known all (first ∷ second ∷ third ∷ fourth ∷ fifth ∷ sixth ∷ []) (drop 6 all)
    (Set first.place (Some (plain second.place)) (plain fourth.place)) split
    (read_by first second third fourth fifth sixth (drop 6 all) arm.is-0 arm.is-1 arm.is-2 arm.is-3 arm.is-4 arm.is-5) begun).0

pub returns-in-Name-Number-PlainNumber-Number-PlainNumber-SetStatement-clause-read :
    goal.returns-in-Name-Number-PlainNumber-Number-PlainNumber-SetStatement-clause-read
returns-in-Name-Number-PlainNumber-Number-PlainNumber-SetStatement-clause-read c begun =
    let all = events_of c.args.notes.now in
    let first = c.event-first.result in
    let second = c.event-second.result in
    let third = c.event-third.result in
    let fourth = c.event-fourth.result in
    let fifth = c.event-fifth.result in
    let sixth = c.event-sixth.result in
    let arm = c.in-Name-Number-PlainNumber-Number-PlainNumber-SetStatement in
    let split = first_six c.args.notes.now first second third fourth fifth sixth _ _ _ _ _ _ (omega (arith, c.if-notes-lt6.false))
    c.event-first.ensures c.event-second.ensures c.event-third.ensures c.event-fourth.ensures c.event-fifth.ensures c.event-sixth.ensures in
    (is_known all (first ∷ second ∷ third ∷ fourth ∷ fifth ∷ sixth ∷ []) (drop 6 all)
    (Set first.place (Some (plain second.place)) (plain fourth.place)) split
    (read_by first second third fourth fifth sixth (drop 6 all) arm.is-0 arm.is-1 arm.is-2 arm.is-3 arm.is-4 arm.is-5) begun).1

pub returns-in-Name-Number-PlainNumber-NoNumber-AddToStatement-default-clause-form :
    goal.returns-in-Name-Number-PlainNumber-NoNumber-AddToStatement-default-clause-form
returns-in-Name-Number-PlainNumber-NoNumber-AddToStatement-default-clause-form c begun =
    let all = events_of c.args.notes.now in
    let first = c.event-first.result in
    let second = c.event-second.result in
    let third = c.event-third.result in
    let fourth = c.event-fourth.result in
    let fifth = c.event-fifth.result in
    let sixth = c.event-sixth.result in
    let arm = c.in-Name-Number-PlainNumber-NoNumber-AddToStatement-default in
    let split = first_six c.args.notes.now first second third fourth fifth sixth _ _ _ _ _ _ (omega (arith, c.if-notes-lt6.false))
    c.event-first.ensures c.event-second.ensures c.event-third.ensures c.event-fourth.ensures c.event-fifth.ensures c.event-sixth.ensures in
    (is_known all (first ∷ second ∷ third ∷ fourth ∷ fifth ∷ []) (sixth ∷ drop 6 all)
    (Add first.place (plain second.place) None) split
    (read_by first second third fourth fifth sixth (drop 6 all) arm.is-0 arm.is-1 arm.is-2 arm.is-3 arm.is-4 refl) begun).0

pub returns-in-Name-Number-PlainNumber-NoNumber-AddToStatement-default-clause-read :
    goal.returns-in-Name-Number-PlainNumber-NoNumber-AddToStatement-default-clause-read
returns-in-Name-Number-PlainNumber-NoNumber-AddToStatement-default-clause-read c begun =
    let all = events_of c.args.notes.now in
    let first = c.event-first.result in
    let second = c.event-second.result in
    let third = c.event-third.result in
    let fourth = c.event-fourth.result in
    let fifth = c.event-fifth.result in
    let sixth = c.event-sixth.result in
    let arm = c.in-Name-Number-PlainNumber-NoNumber-AddToStatement-default in
    let split = first_six c.args.notes.now first second third fourth fifth sixth _ _ _ _ _ _ (omega (arith, c.if-notes-lt6.false))
    c.event-first.ensures c.event-second.ensures c.event-third.ensures c.event-fourth.ensures c.event-fifth.ensures c.event-sixth.ensures in
    (is_known all (first ∷ second ∷ third ∷ fourth ∷ fifth ∷ []) (sixth ∷ drop 6 all)
    (Add first.place (plain second.place) None) split
    (read_by first second third fourth fifth sixth (drop 6 all) arm.is-0 arm.is-1 arm.is-2 arm.is-3 arm.is-4 refl) begun).1

pub returns-in-Name-Number-PlainNumber-Number-PlainNumber-PutStatement-clause-form :
    goal.returns-in-Name-Number-PlainNumber-Number-PlainNumber-PutStatement-clause-form
returns-in-Name-Number-PlainNumber-Number-PlainNumber-PutStatement-clause-form c begun =
    let all = events_of c.args.notes.now in
    let first = c.event-first.result in
    let second = c.event-second.result in
    let third = c.event-third.result in
    let fourth = c.event-fourth.result in
    let fifth = c.event-fifth.result in
    let sixth = c.event-sixth.result in
    let arm = c.in-Name-Number-PlainNumber-Number-PlainNumber-PutStatement in
    let split = first_six c.args.notes.now first second third fourth fifth sixth _ _ _ _ _ _ (omega (arith, c.if-notes-lt6.false))
    c.event-first.ensures c.event-second.ensures c.event-third.ensures c.event-fourth.ensures c.event-fifth.ensures c.event-sixth.ensures in
    (is_known all (first ∷ second ∷ third ∷ fourth ∷ fifth ∷ sixth ∷ []) (drop 6 all)
    (Put first.place (plain second.place) (plain fourth.place)) split
    (read_by first second third fourth fifth sixth (drop 6 all) arm.is-0 arm.is-1 arm.is-2 arm.is-3 arm.is-4 arm.is-5) begun).0

pub returns-in-Name-Number-PlainNumber-Number-PlainNumber-PutStatement-clause-read :
    goal.returns-in-Name-Number-PlainNumber-Number-PlainNumber-PutStatement-clause-read
returns-in-Name-Number-PlainNumber-Number-PlainNumber-PutStatement-clause-read c begun =
    let all = events_of c.args.notes.now in
    let first = c.event-first.result in
    let second = c.event-second.result in
    let third = c.event-third.result in
    let fourth = c.event-fourth.result in
    let fifth = c.event-fifth.result in
    let sixth = c.event-sixth.result in
    let arm = c.in-Name-Number-PlainNumber-Number-PlainNumber-PutStatement in
    let split = first_six c.args.notes.now first second third fourth fifth sixth _ _ _ _ _ _ (omega (arith, c.if-notes-lt6.false))
    c.event-first.ensures c.event-second.ensures c.event-third.ensures c.event-fourth.ensures c.event-fifth.ensures c.event-sixth.ensures in
    (is_known all (first ∷ second ∷ third ∷ fourth ∷ fifth ∷ sixth ∷ []) (drop 6 all)
    (Put first.place (plain second.place) (plain fourth.place)) split
    (read_by first second third fourth fifth sixth (drop 6 all) arm.is-0 arm.is-1 arm.is-2 arm.is-3 arm.is-4 arm.is-5) begun).1

pub returns-in-Name-Number-PlainNumber-RemoveFromStatement-default-default-clause-form :
    goal.returns-in-Name-Number-PlainNumber-RemoveFromStatement-default-default-clause-form
returns-in-Name-Number-PlainNumber-RemoveFromStatement-default-default-clause-form c begun =
    let all = events_of c.args.notes.now in
    let first = c.event-first.result in
    let second = c.event-second.result in
    let third = c.event-third.result in
    let fourth = c.event-fourth.result in
    let fifth = c.event-fifth.result in
    let sixth = c.event-sixth.result in
    let arm = c.in-Name-Number-PlainNumber-RemoveFromStatement-default-default in
    let split = first_six c.args.notes.now first second third fourth fifth sixth _ _ _ _ _ _ (omega (arith, c.if-notes-lt6.false))
    c.event-first.ensures c.event-second.ensures c.event-third.ensures c.event-fourth.ensures c.event-fifth.ensures c.event-sixth.ensures in
    (is_known all (first ∷ second ∷ third ∷ fourth ∷ []) (fifth ∷ sixth ∷ drop 6 all)
    (Remove first.place (plain second.place)) split
    (read_by first second third fourth fifth sixth (drop 6 all) arm.is-0 arm.is-1 arm.is-2 arm.is-3 refl refl) begun).0

pub returns-in-Name-Number-PlainNumber-RemoveFromStatement-default-default-clause-read :
    goal.returns-in-Name-Number-PlainNumber-RemoveFromStatement-default-default-clause-read
returns-in-Name-Number-PlainNumber-RemoveFromStatement-default-default-clause-read c begun =
    let all = events_of c.args.notes.now in
    let first = c.event-first.result in
    let second = c.event-second.result in
    let third = c.event-third.result in
    let fourth = c.event-fourth.result in
    let fifth = c.event-fifth.result in
    let sixth = c.event-sixth.result in
    let arm = c.in-Name-Number-PlainNumber-RemoveFromStatement-default-default in
    let split = first_six c.args.notes.now first second third fourth fifth sixth _ _ _ _ _ _ (omega (arith, c.if-notes-lt6.false))
    c.event-first.ensures c.event-second.ensures c.event-third.ensures c.event-fourth.ensures c.event-fifth.ensures c.event-sixth.ensures in
    (is_known all (first ∷ second ∷ third ∷ fourth ∷ []) (fifth ∷ sixth ∷ drop 6 all)
    (Remove first.place (plain second.place)) split
    (read_by first second third fourth fifth sixth (drop 6 all) arm.is-0 arm.is-1 arm.is-2 arm.is-3 refl refl) begun).1

pub returns-in-Name-DisposeStatement-default-default-default-default-clause-form :
    goal.returns-in-Name-DisposeStatement-default-default-default-default-clause-form
returns-in-Name-DisposeStatement-default-default-default-default-clause-form c begun =
    let all = events_of c.args.notes.now in
    let first = c.event-first.result in
    let second = c.event-second.result in
    let third = c.event-third.result in
    let fourth = c.event-fourth.result in
    let fifth = c.event-fifth.result in
    let sixth = c.event-sixth.result in
    let arm = c.in-Name-DisposeStatement-default-default-default-default in
    let split = first_six c.args.notes.now first second third fourth fifth sixth _ _ _ _ _ _ (omega (arith, c.if-notes-lt6.false))
    c.event-first.ensures c.event-second.ensures c.event-third.ensures c.event-fourth.ensures c.event-fifth.ensures c.event-sixth.ensures in
    (is_known all (first ∷ second ∷ []) (third ∷ fourth ∷ fifth ∷ sixth ∷ drop 6 all)
    (Dispose first.place [] None) split
    (read_by first second third fourth fifth sixth (drop 6 all) arm.is-0 arm.is-1 refl refl refl refl) begun).0

pub returns-in-Name-DisposeStatement-default-default-default-default-clause-read :
    goal.returns-in-Name-DisposeStatement-default-default-default-default-clause-read
returns-in-Name-DisposeStatement-default-default-default-default-clause-read c begun =
    let all = events_of c.args.notes.now in
    let first = c.event-first.result in
    let second = c.event-second.result in
    let third = c.event-third.result in
    let fourth = c.event-fourth.result in
    let fifth = c.event-fifth.result in
    let sixth = c.event-sixth.result in
    let arm = c.in-Name-DisposeStatement-default-default-default-default in
    let split = first_six c.args.notes.now first second third fourth fifth sixth _ _ _ _ _ _ (omega (arith, c.if-notes-lt6.false))
    c.event-first.ensures c.event-second.ensures c.event-third.ensures c.event-fourth.ensures c.event-fifth.ensures c.event-sixth.ensures in
    (is_known all (first ∷ second ∷ []) (third ∷ fourth ∷ fifth ∷ sixth ∷ drop 6 all)
    (Dispose first.place [] None) split
    (read_by first second third fourth fifth sixth (drop 6 all) arm.is-0 arm.is-1 refl refl refl refl) begun).1

pub returns-in-Name-PrintStatement-default-default-default-default-clause-form :
    goal.returns-in-Name-PrintStatement-default-default-default-default-clause-form
returns-in-Name-PrintStatement-default-default-default-default-clause-form c begun =
    let all = events_of c.args.notes.now in
    let first = c.event-first.result in
    let second = c.event-second.result in
    let third = c.event-third.result in
    let fourth = c.event-fourth.result in
    let fifth = c.event-fifth.result in
    let sixth = c.event-sixth.result in
    let arm = c.in-Name-PrintStatement-default-default-default-default in
    let split = first_six c.args.notes.now first second third fourth fifth sixth _ _ _ _ _ _ (omega (arith, c.if-notes-lt6.false))
    c.event-first.ensures c.event-second.ensures c.event-third.ensures c.event-fourth.ensures c.event-fifth.ensures c.event-sixth.ensures in
    (is_known all (first ∷ second ∷ []) (third ∷ fourth ∷ fifth ∷ sixth ∷ drop 6 all)
    (Print first.place) split
    (read_by first second third fourth fifth sixth (drop 6 all) arm.is-0 arm.is-1 refl refl refl refl) begun).0

pub returns-in-Name-PrintStatement-default-default-default-default-clause-read :
    goal.returns-in-Name-PrintStatement-default-default-default-default-clause-read
returns-in-Name-PrintStatement-default-default-default-default-clause-read c begun =
    let all = events_of c.args.notes.now in
    let first = c.event-first.result in
    let second = c.event-second.result in
    let third = c.event-third.result in
    let fourth = c.event-fourth.result in
    let fifth = c.event-fifth.result in
    let sixth = c.event-sixth.result in
    let arm = c.in-Name-PrintStatement-default-default-default-default in
    let split = first_six c.args.notes.now first second third fourth fifth sixth _ _ _ _ _ _ (omega (arith, c.if-notes-lt6.false))
    c.event-first.ensures c.event-second.ensures c.event-third.ensures c.event-fourth.ensures c.event-fifth.ensures c.event-sixth.ensures in
    (is_known all (first ∷ second ∷ []) (third ∷ fourth ∷ fifth ∷ sixth ∷ drop 6 all)
    (Print first.place) split
    (read_by first second third fourth fifth sixth (drop 6 all) arm.is-0 arm.is-1 refl refl refl refl) begun).1

pub returns-in-FlushStatement-default-default-default-default-default-clause-form :
    goal.returns-in-FlushStatement-default-default-default-default-default-clause-form
returns-in-FlushStatement-default-default-default-default-default-clause-form c begun =
    let all = events_of c.args.notes.now in
    let first = c.event-first.result in
    let second = c.event-second.result in
    let third = c.event-third.result in
    let fourth = c.event-fourth.result in
    let fifth = c.event-fifth.result in
    let sixth = c.event-sixth.result in
    let arm = c.in-FlushStatement-default-default-default-default-default in
    let split = first_six c.args.notes.now first second third fourth fifth sixth _ _ _ _ _ _ (omega (arith, c.if-notes-lt6.false))
    c.event-first.ensures c.event-second.ensures c.event-third.ensures c.event-fourth.ensures c.event-fifth.ensures c.event-sixth.ensures in
    (is_known all (first ∷ []) (second ∷ third ∷ fourth ∷ fifth ∷ sixth ∷ drop 6 all)
    (Flush) split
    (read_by first second third fourth fifth sixth (drop 6 all) arm.is-0 refl refl refl refl refl) begun).0

pub returns-in-FlushStatement-default-default-default-default-default-clause-read :
    goal.returns-in-FlushStatement-default-default-default-default-default-clause-read
returns-in-FlushStatement-default-default-default-default-default-clause-read c begun =
    let all = events_of c.args.notes.now in
    let first = c.event-first.result in
    let second = c.event-second.result in
    let third = c.event-third.result in
    let fourth = c.event-fourth.result in
    let fifth = c.event-fifth.result in
    let sixth = c.event-sixth.result in
    let arm = c.in-FlushStatement-default-default-default-default-default in
    let split = first_six c.args.notes.now first second third fourth fifth sixth _ _ _ _ _ _ (omega (arith, c.if-notes-lt6.false))
    c.event-first.ensures c.event-second.ensures c.event-third.ensures c.event-fourth.ensures c.event-fifth.ensures c.event-sixth.ensures in
    (is_known all (first ∷ []) (second ∷ third ∷ fourth ∷ fifth ∷ sixth ∷ drop 6 all)
    (Flush) split
    (read_by first second third fourth fifth sixth (drop 6 all) arm.is-0 refl refl refl refl refl) begun).1

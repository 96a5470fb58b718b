-- The exit statuses as numbers: a clause that cites a status by its name says nothing of its value, so one law says it
-- of all.
use Rattle.std.specs.Prelude.{◌≡◌}
use Rattle.frame_top.specs.declared.status.TheConstants.{DONE, STATEMENT_REFUSED, USAGE, SCRIPT_REFUSED, TABLE_REFUSED, TRAPPED, UNREAD, UNWRITTEN, NO_MEMORY, PAST_LIMIT}

pub record StatusesAreThese : Type 0 where
  pub done : DONE ≡ 0
  pub statement_refused : STATEMENT_REFUSED ≡ 1
  pub usage : USAGE ≡ 2
  pub script_refused : SCRIPT_REFUSED ≡ 3
  pub table_refused : TABLE_REFUSED ≡ 4
  pub trapped : TRAPPED ≡ 5
  pub unread : UNREAD ≡ 6
  pub unwritten : UNWRITTEN ≡ 7
  pub no_memory : NO_MEMORY ≡ 8
  pub past_limit : PAST_LIMIT ≡ 9

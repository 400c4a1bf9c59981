-- What became of a message, as C is told (IEEE 1588-2019, 11.2 and 11.3).
use Rattle.std.specs.Prelude.{◌≡◌, ℕ, pos, false, is_none, unwrap_or}
use Rattle.slave_port.specs.declared.heard.Heard.{Heard}
use Rattle.slave_port.specs.declared.heard.Heard.TheVariants as answers
use Rattle.slave_port.specs.declared.heard.Report.{Report}
use Rattle.slave_port.specs.Refusal.{code_of_reason}
use Rattle.ptpx_c.specs.declared.heard.RawHeard.{RawHeard}
use Rattle.ptpx_c.specs.Words.{signed_of}

-- no report: its fields are 0
abbrev pub without_report : (kind reason : ℕ) → RawHeard
without_report kind reason = record {
  kind = kind;
  reason = reason;
  one_step = false;
  offset2 = record { high = pos 0; low = 0 };
  path2 = record { high = pos 0; low = 0 };
  sync_tag = 0;
  follow_tag = 0;
  request_tag = 0;
  response_tag = 0;
}

-- the fields say this report
pub record IsReport (said : RawHeard) (report : Report) : Type 0 where
  pub kind : said.kind ≡ 2
  pub reason : said.reason ≡ 0
  pub one_step : said.one_step ≡ is_none report.follow_tag
  pub offset2 : signed_of said.offset2 ≡ report.offset2
  pub path2 : signed_of said.path2 ≡ report.path2
  pub sync_tag : said.sync_tag ≡ report.sync_tag
  pub follow_tag : said.follow_tag ≡ unwrap_or report.follow_tag 0
  pub request_tag : said.request_tag ≡ report.request_tag
  pub response_tag : said.response_tag ≡ report.response_tag

-- the fields say this answer
abbrev pub Says : RawHeard → Heard → Type 0
Says said answers.Held = said ≡ without_report 0 0
Says said answers.Completed = said ≡ without_report 1 0
Says said (answers.Report report) = IsReport said report
Says said (answers.Ignored reason) = said ≡ without_report 3 (code_of_reason reason)

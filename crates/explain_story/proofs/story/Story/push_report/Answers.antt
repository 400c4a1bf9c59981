use Rattle.std.proofs.Common.{◌∙◌, sym}
use Rattle.std.proofs.Common.{None}
use Rattle.explain_story.proofs.Told.{refused_told, sound_told, told_by}
use Rattle.explain_story.proofs.story.Story.push_report.Goals as goal

pub returns-then-is_sound : goal.returns-then-is_sound
returns-then-is_sound c =
    let (told, tells, is) = sound_told c.args.reported.now None c.args.reported.now.judgement.reasons _ (sym c.is_sound.ensures ∙ c.if-is_sound.true) in
    (told, (None, tells), is)

pub returns : goal.returns
returns c =
    told_by c.push.result c.args.reported.now c.args.by_messages _ _
    (refused_told c.push.result c.args.reported.now c.args.by_messages _ _ _ (sym c.is_sound.ensures ∙ c.if-is_sound.false) c.push.ensures)

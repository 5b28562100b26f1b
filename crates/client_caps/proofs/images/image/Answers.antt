use Rattle.client_caps.proofs.images.image.Goals as goal
use Rattle.client_caps.proofs.{ImageMade.image_can, TimeText.time_tagged}
use Rattle.{client_caps.specs.Moment.time_text_of, std.proofs.Common.{None, Some, refl}}

pub sent_as-requires : goal.sent_as-requires
sent_as-requires g c =
    let time = time_text_of c.args.moment.0 in
    let can = image_can _ c.args.caps (Some c.time_tag-tag.result) time c.args.line.now
    c.comes_from_lines.ensures c.is_passed_on.ensures.writable (time_tagged c.args.moment.0)
    (rw (c.if-caps.true, c.time_tag-tag.ensures) refl) in
    record { tags = can.0; written = can.1 }

pub sent_as-requires-2 : goal.sent_as-requires-2
sent_as-requires-2 g c =
    let can = image_can _ c.args.caps None (time_text_of c.args.moment.0) c.args.line.now
    c.comes_from_lines.ensures c.is_passed_on.ensures.writable (time_tagged c.args.moment.0)
    (rw c.if-caps.false refl) in
    record { tags = can.0; written = can.1 }

use Rattle.std.proofs.Common.{◌<◌, drop}
use Rattle.std.proofs.lemmas.List.Elements.{All-take, All-drop, All-from_get_or}
use Rattle.key_bytes.specs.Keys.{IsByteString}
use Rattle.key_bytes.proofs.short.word_at.Goals as goal

pub returns-in-Some-clause-bytes : goal.returns-in-Some-clause-bytes
returns-in-Some-clause-bytes c =
    let room : IsByteString c.args.room.now = All-from_get_or (λ b. b < 256) c.args.room.now 0 (λ k inside. c.fits-room k) in
    All-take (λ b. b < 256) 8 (drop c.args.at c.args.room.now) (All-drop (λ b. b < 256) c.args.at c.args.room.now room)

use Rattle.std.proofs.lemmas.Result.{on_ok_weaker}
use Rattle.text_commands.proofs.Scenes.{stands_cleared, stands_put, stands_watched_by}
use Rattle.text_commands.proofs.scene.Scene.happen.Goals as goal

pub returns-in-Watch : goal.returns-in-Watch
returns-in-Watch c = λ events front rest is stands.
    on_ok_weaker c.watch.result
    (stands_watched_by events front c.in-Watch.key c.args.event.now c.args.self.now c.watch.new.self c.in-Watch.is stands) c.watch.ensures

pub returns-in_ok-removal-in-Clear : goal.returns-in_ok-removal-in-Clear
returns-in_ok-removal-in-Clear c = λ events front rest is stands.
    let change = c.in_ok-removal-in-Clear.ensures in
    on_ok_weaker c.commit.result
    (stands_cleared events front rest c.in-Clear.key c.args.event.now c.in_ok-removal-in-Clear.field-0.key c.in_ok-removal-in-Clear.field-0.value
    c.args.self.now c.commit.new.self c.in-Clear.is change.0 change.1 is stands) c.commit.ensures

pub returns-in_ok-setting-in-Put : goal.returns-in_ok-setting-in-Put
returns-in_ok-setting-in-Put c = λ events front rest is stands.
    let change = c.in_ok-setting-in-Put.ensures in
    on_ok_weaker c.commit-in-Put.result
    (stands_put events front rest c.in-Put.pair c.args.event.now c.in_ok-setting-in-Put.field-0.key c.in_ok-setting-in-Put.field-0.value
    c.args.self.now c.commit-in-Put.new.self c.in-Put.is change.0 change.1 is stands) c.commit-in-Put.ensures

-- What the thread of the core comes back with.
use Rattle.std.specs.Prelude.{◌≡◌, ◌+◌, ◌++◌, false, []}
use Rattle.request_line.specs.declared.ends.Receiver.{Receiver}
use Rattle.request_line.specs.declared.ends.Sender.{Sender}
use Rattle.request_line.specs.History.{first_history}
use Rattle.request_line.specs.Line.{closed, history, receiver_line, sender_line, taken}
use Rattle.network.specs.declared.post.Post.{Post}
use Rattle.network.specs.Posts.{overs_in}
use Rattle.network.specs.Serving.{Serves, posts_since, replies_of, started_by, taken_since}
use Rattle.core_service.specs.declared.service.CoreService.{CoreService}
use Rattle.core_service.specs.Serving.{CoreAnswers}
use Rattle.threaded_runs.specs.declared.threading.Answered.{Answered}
use Rattle.threaded_runs.specs.declared.threading.Back.{Back}
use Rattle.threaded_runs.specs.declared.threading.Back.TheVariants as back
use Rattle.threaded_runs.specs.declared.threading.Network.{Network}
use Rattle.threaded_runs.specs.declared.threading.Network.TheVariants as network

-- what `serve` says, from a receiver and a service
pub record IsServed (receiver : Receiver Post) (service : CoreService) (answered : Answered) : Type 0 where
  pub served : answered.served.short ≡ false → Serves CoreAnswers service answered.service (posts_since receiver answered.receiver)
      answered.served.order answered.served.receipts
  pub ended : overs_in (posts_since receiver answered.receiver) ≡ answered.served.machines
  pub machines : answered.served.machines ≡ 1 + started_by (replies_of answered.served.receipts)
  pub taken_are : taken answered.receiver ≡ taken receiver ++ taken_since receiver answered.receiver
  pub closed_are : closed answered.receiver ≡ closed receiver
  pub line : receiver_line answered.receiver ≡ receiver_line receiver

-- it served, or it was called off and nothing became of the core
abbrev pub CameBack : Receiver Post → CoreService → Back → Type 0
CameBack receiver service (back.Served answered) = IsServed receiver service answered
CameBack receiver service (back.CalledOff kept core) = (kept ≡ receiver) × (core ≡ service)

-- the thread that was promised so much and the sender, or the core
abbrev pub IsNetworkOf : Sender Post → Receiver Post → CoreService → Network → Type 0
IsNetworkOf sender receiver service (network.Runs child kept) =
    (child.promise.0.value ≡ receiver) × (child.promise.1.value ≡ service) × (kept ≡ sender)
IsNetworkOf sender receiver service (network.Refused kept) = kept ≡ service

-- the two ends of a new line
pub record IsFresh (receiver : Receiver Post) (sender : Sender Post) : Type 0 where
  pub line : sender_line sender ≡ receiver_line receiver
  pub first : history sender ≡ first_history
  pub taken_none : taken receiver ≡ []
  pub closed_none : closed receiver ≡ []

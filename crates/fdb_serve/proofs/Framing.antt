-- How the reading of a frame ends, by what was read of it.
use Rattle.std.proofs.Common.{◌≡◌, ◌∙◌, ℕ, ◌+◌, ◌<◌, ◌≤◌, List, [], ◌∷◌, ◌++◌, length, Option, Some, None, Result, Ok, Err, refl, sym, ap, subst, arith, inl, inr}
use Rattle.std.specs.Int.{w32, to_be_bytes}
use Rattle.std.specs.Io.KnownBytes.{Consumes, IsAtEnd}
use Rattle.std.proofs.KnownBytes.{Consumes-nil, Consumes-trans}
use Rattle.std.proofs.lemmas.List.{append-nil, length-append}
use Rattle.outside.specs.Streams.{IsWhole, IsFull, ConsumesFewer}
use Rattle.fdb_calls.specs.declared.Request.{Request}
use Rattle.fdb_wire.specs.Requests.{request_bytes, IsClientRequest}
use Rattle.fdb_serve.specs.declared.halt.Flaw.{Flaw}
use Rattle.fdb_serve.specs.declared.halt.Flaw.TheVariants as flaws
use Rattle.fdb_serve.specs.declared.halt.Halt.{Halt}
use Rattle.fdb_serve.specs.declared.halt.Halt.TheVariants as halt
use Rattle.fdb_serve.specs.Serving.{framed}
use Rattle.fdb_serve.specs.Outcomes.{frame_limit, IsPart, IsBad}
use Rattle.fdb_serve.specs.Endings.{IsServed, IsBody, IsRest, IsEnd, IsNext, EndsIn}

pub framed_by : (number : ℕ) (bytes : List ℕ) → length bytes ≡ number → to_be_bytes w32 number ++ bytes ≡ framed bytes
unfolding framed
framed_by number bytes is = ap (λ (n : ℕ). to_be_bytes w32 n ++ bytes) (sym is)

length_four : (number : ℕ) → length (to_be_bytes w32 number) ≡ 4
length_four number = refl

cut : (number : ℕ) (bytes : List ℕ) → length bytes < number → number ≤ frame_limit → IsPart (to_be_bytes w32 number ++ bytes)
cut number bytes fewer within = inr (number, bytes, refl, fewer, within)

-- ---- behind the number of a frame

pub rest_full : (r : Result Request Halt) (number : ℕ) (left after : Option (List ℕ)) (bytes : List ℕ) → IsFull number left after bytes
    → number ≤ frame_limit → IsBody r bytes → IsRest r number left after
rest_full (Ok request) number left after bytes full within body =
    let same : length bytes ≡ length (request_bytes request) = ap length body.1 in (
      (body.0, let exact = full.exact in omega arith),
      sym full.exact ∙ same,
      subst (Consumes left after) body.1 full.consumed,
    )
rest_full (Err halt.NoMemory) number left after bytes full within body = (bytes, full.consumed, tt)
rest_full (Err (halt.Bad flaw)) number left after bytes full within body =
    let bad : IsBad flaws.NoRequest (to_be_bytes w32 number ++ bytes) =
    (bytes, framed_by number bytes full.exact, (let exact = full.exact in omega arith), body.1) in
    (bytes, full.consumed, subst (λ (f : Flaw). IsBad f (to_be_bytes w32 number ++ bytes)) (sym body.0) bad)
rest_full (Err halt.Read) number left after bytes full within body = absurd body
rest_full (Err halt.Write) number left after bytes full within body = absurd body

pub rest_cut : (number : ℕ) (left after : Option (List ℕ)) (bytes : List ℕ) → IsWhole number left after bytes → number ≤ frame_limit
    → IsRest (Err (halt.Bad flaws.CutShort)) number left after
rest_cut number left after bytes whole within =
    (bytes, whole.consumed, (cut number bytes whole.fewer within, omega (arith, length-append (to_be_bytes w32 number) bytes, length_four number)))

pub rest_failed : (number : ℕ) (left after : Option (List ℕ)) → ConsumesFewer number left after → number ≤ frame_limit
    → IsRest (Err halt.Read) number left after
rest_failed number left after fewer within = (fewer.0, fewer.2, cut number fewer.0 fewer.1 within)

pub rest_short : (number : ℕ) (left after : Option (List ℕ)) → ConsumesFewer number left after → IsRest (Err halt.NoMemory) number left after
rest_short number left after fewer = (fewer.0, fewer.2, tt)

pub rest_long : (number : ℕ) (left : Option (List ℕ)) → frame_limit < number → IsRest (Err (halt.Bad flaws.TooLong)) number left left
rest_long number left long = ([], Consumes-nil left, (number, append-nil (to_be_bytes w32 number), long))

-- ---- a frame

pub next_read : (request : Request) (number : ℕ) (left middle after : Option (List ℕ)) (head : List ℕ) → IsFull 4 left middle head
    → to_be_bytes w32 number ≡ head → IsRest (Ok request) number middle after
    → IsNext (Ok (Some request)) left after
unfolding framed
next_read request number left middle after head full is rest =
    let front : head ≡ to_be_bytes w32 (length (request_bytes request)) =
    sym is ∙ ap (to_be_bytes w32) rest.1 in (
      rest.0,
      subst (λ (t : List ℕ). Consumes left after (t ++ request_bytes request)) front
          (Consumes-trans left middle after head (request_bytes request) full.consumed rest.2),
    )

pub next_unread : (why : Halt) (number : ℕ) (left middle after : Option (List ℕ)) (head : List ℕ) → IsFull 4 left middle head
    → to_be_bytes w32 number ≡ head → IsRest (Err why) number middle after
    → IsNext (Err why) left after
next_unread why number left middle after head full is rest = (
  head ++ rest.0,
  Consumes-trans left middle after head rest.0 full.consumed rest.1,
  subst (λ (t : List ℕ). EndsIn why (t ++ rest.0)) is rest.2,
)

pub next_end : (r : Result (Option Request) Halt) (left after : Option (List ℕ)) (bytes : List ℕ) → IsWhole 4 left after bytes → IsEnd r bytes
    → IsNext r left after
next_end (Ok None) left after bytes whole end = (subst (Consumes left after) end whole.consumed, whole.end)
next_end (Ok (Some request)) left after bytes whole end = absurd end
next_end (Err (halt.Bad flaw)) left after bytes whole end =
    let bad : IsBad flaws.CutShort bytes = (inl whole.fewer, end.1) in
    (bytes, whole.consumed, subst (λ (f : Flaw). IsBad f bytes) (sym end.0) bad)
next_end (Err halt.Read) left after bytes whole end = absurd end
next_end (Err halt.Write) left after bytes whole end = absurd end
next_end (Err halt.NoMemory) left after bytes whole end = absurd end

pub next_failed : (left after : Option (List ℕ)) → ConsumesFewer 4 left after → IsNext (Err halt.Read) left after
next_failed left after fewer = (fewer.0, fewer.2, inl fewer.1)

pub next_short : (left after : Option (List ℕ)) → ConsumesFewer 4 left after → IsNext (Err halt.NoMemory) left after
next_short left after fewer = (fewer.0, fewer.2, tt)

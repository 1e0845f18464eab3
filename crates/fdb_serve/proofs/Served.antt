-- One request more: what is answered, what is left, and which frames were read.
use Rattle.std.proofs.Common.{◌≡◌, ◌∙◌, ℕ, suc, ◌+◌, ◌<◌, ◌≤◌, List, [], ◌∷◌, ◌++◌, length, take, Option, refl, sym, ap, subst, append_assoc, arith}
use Rattle.std.proofs.KnownBytes.{Appends-trans}
use Rattle.std.proofs.lemmas.List.{append-nil, length-append}
use Rattle.std.specs.List.{AllByRecursion}
use Rattle.std.specs.Io.KnownBytes.{Appends}
use Rattle.outside.specs.Streams.{AppendsFront}
use Rattle.fdb_calls.specs.declared.Request.{Request}
use Rattle.model_machine.specs.Worlds.{World, step}
use Rattle.fdb_wire.specs.Requests.{request_bytes}
use Rattle.fdb_wire.specs.Replies.{reply_bytes}
use Rattle.fdb_serve.specs.Serving.{framed, frames_of, answers_to, world_after}
use Rattle.fdb_serve.specs.Outcomes.{AreServed}
use Rattle.fdb_serve.specs.Endings.{IsServed}

pub answers_more : (world : World) (requests : List Request) (request : Request)
    → answers_to world (requests ++ request ∷ [])
    ≡ answers_to world requests ++ framed (reply_bytes (step (world_after world requests) request).reply)
unfolding answers_to world_after
answers_more world [] request = append-nil (framed (reply_bytes (step world request).reply))
answers_more world (first ∷ requests) request =
    let answer = framed (reply_bytes (step world first).reply) in
    ap (λ (t : List ℕ). answer ++ t) (answers_more (step world first).world requests request)
    ∙ sym (append_assoc answer (answers_to (step world first).world requests)
    (framed (reply_bytes (step (world_after (step world first).world requests) request).reply)))

pub world_more : (world : World) (requests : List Request) (request : Request)
    → world_after world (requests ++ request ∷ []) ≡ (step (world_after world requests) request).world
unfolding world_after
world_more world [] request = refl
world_more world (first ∷ requests) request = world_more (step world first).world requests request

pub frames_more : (requests : List Request) (request : Request)
    → frames_of (requests ++ request ∷ []) ≡ frames_of requests ++ framed (request_bytes request)
frames_more [] request = append-nil (framed (request_bytes request))
frames_more (first ∷ requests) request =
    ap (λ (t : List ℕ). framed (request_bytes first) ++ t) (frames_more requests request)
    ∙ sym (append_assoc (framed (request_bytes first)) (frames_of requests) (framed (request_bytes request)))

pub served_more : (requests : List Request) (request : Request) → AreServed requests → IsServed request → AreServed (requests ++ request ∷ [])
served_more [] request are is = (is, tt)
served_more (first ∷ requests) request are is = (are.0, served_more requests request are.1 is)

-- ---- what was written

-- a front of one more text
front_more : (start before after : Option (List ℕ)) (front text : List ℕ) → Appends start before front
    → AppendsFront before after text → AppendsFront start after (front ++ text)
front_more start before after front text h k =
    let n = k.0 in
    let less = k.1 in (
      length front + n,
      omega (arith, length-append front text),
      subst (Appends start after) (taken front text n) (Appends-trans start before after front (take n text) h k.2),
    )
  where
    taken : (front text : List ℕ) (n : ℕ) → front ++ take n text ≡ take (length front + n) (front ++ text)
    taken [] text n = ap (λ (k : ℕ). take k text) (let e : n ≡ 0 + n = omega arith in e)
    taken (byte ∷ front) text n =
        let e : suc (length front + n) ≡ length (byte ∷ front) + n = omega arith in
        ap (λ (x : List ℕ). byte ∷ x) (taken front text n) ∙ ap (λ (k : ℕ). take k (byte ∷ (front ++ text))) e

-- the answer to one request more was written
pub written_more : (start before after : Option (List ℕ)) (world : World) (requests : List Request) (request : Request) (frame : List ℕ)
    → Appends start before (answers_to world requests)
    → frame ≡ framed (reply_bytes (step (world_after world requests) request).reply) → Appends before after frame
    → Appends start after (answers_to world (requests ++ request ∷ []))
written_more start before after world requests request frame h is k =
    subst (Appends start after) (ap (λ (t : List ℕ). answers_to world requests ++ t) is ∙ sym (answers_more world requests request))
    (Appends-trans start before after (answers_to world requests) frame h k)

-- or a front of it
pub written_front_more : (start before after : Option (List ℕ)) (world : World) (requests : List Request) (request : Request) (frame : List ℕ)
    → Appends start before (answers_to world requests)
    → frame ≡ framed (reply_bytes (step (world_after world requests) request).reply) → AppendsFront before after frame
    → AppendsFront start after (answers_to world (requests ++ request ∷ []))
written_front_more start before after world requests request frame h is k =
    subst (AppendsFront start after) (ap (λ (t : List ℕ). answers_to world requests ++ t) is ∙ sym (answers_more world requests request))
    (front_more start before after (answers_to world requests) frame h k)

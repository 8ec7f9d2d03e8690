use Rattle.std.proofs.Common.{true, false}
use Rattle.command_words.specs.declared.command.Command.{Command}
use Rattle.command_words.specs.declared.command.Command.TheVariants.{Call, Send, Recv, Demo, Rate, Audit, Duplex, Group}
use Rattle.h263rps_run.specs.Output.{bucket_of, demo_terms, group_terms, sending_of, terms_of}
use Rattle.h263rps_run.specs.Promises.{IsRefusedRightly}
use Rattle.h263rps_run.proofs.Asked.{no_video, one_video}
use Rattle.h263rps_run.proofs.laws.refused_videos.Goals as goal

of_each : (c : goal.After-no_second_video-3) (k : Command) → IsRefusedRightly k
of_each c (Call params traced) = one_video (Call params traced) (c.refused_videos.ensures (terms_of params traced))
    (c.no_second_video.ensures (terms_of params traced))
of_each c (Send params target fit) = one_video (Send params target fit)
    (c.refused_videos-2.ensures (sending_of params target fit))
    (c.no_second_video-2.ensures (sending_of params target fit))
of_each c (Recv params false) = no_video (Recv params false) (c.no_video_refused.ensures.first params)
    (c.no_video_refused.ensures.second params)
of_each c (Recv params true) = no_video (Recv params true) (c.no_joined_video_refused.ensures.first params)
    (c.no_joined_video_refused.ensures.second params)
of_each c (Demo params seed frames) =
    no_video (Demo params seed frames)
    (λ inputs fault ends. cc (c.ends_well.ensures (demo_terms params seed frames) inputs, ends))
    (λ inputs fault ends. cc (c.ends_well.ensures (demo_terms params seed frames) inputs, ends))
of_each c (Rate target bucket) =
    no_video (Rate target bucket) (c.no_video_refused-2.ensures.first (bucket_of target bucket))
    (c.no_video_refused-2.ensures.second (bucket_of target bucket))
of_each c (Audit params) = no_video (Audit params) (c.no_video_refused-3.ensures.first params)
    (c.no_video_refused-3.ensures.second params)
of_each c (Duplex params) = record {
  first = c.refused_videos-3.ensures.first params;
  second = c.refused_videos-3.ensures.second params;
}
of_each c (Group params receivers) = one_video (Group params receivers)
    (c.refused_videos-4.ensures (group_terms params receivers))
    (c.no_second_video-3.ensures (group_terms params receivers))

pub returns : goal.returns
returns c = of_each c

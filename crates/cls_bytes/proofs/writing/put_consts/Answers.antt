use Rattle.std.proofs.Common.{◌+◌, drop}
use Rattle.cls_tree.specs.Layout.{const_bytes}
use Rattle.cls_tree.specs.Fits.{FitsConst}
use Rattle.cls_layout.proofs.Drops.{drop_is}
use Rattle.cls_bytes.proofs.Written.{more, first_fits, others_fit, all_written}
use Rattle.cls_bytes.proofs.writing.put_consts.Goals as goal

pub put_const-requires : goal.put_const-requires
put_const-requires c =
    let e = drop_is c.args.constants.now c.loop-constant.constant-index c.constant-item.result c.loop-constant-test.true c.constant-item.is
    in
    first_fits FitsConst (drop c.loop-constant.constant-index c.args.constants.now)
    (drop (c.loop-constant.constant-index + 1) c.args.constants.now) (c.constant-item.result) e c.loop-constant.invariant.fits

pub loop-constant-preserved : goal.loop-constant-preserved
loop-constant-preserved c =
    let e = drop_is c.args.constants.now c.loop-constant.constant-index c.constant-item.result c.loop-constant-test.true c.constant-item.is
    in
    record {
      so_far = more const_bytes (drop c.loop-constant.constant-index c.args.constants.now)
          (drop (c.loop-constant.constant-index + 1) c.args.constants.now) (c.constant-item.result) c.loop-constant.out c.put_const.new.out
          _ e c.in_ok-put_const.ensures c.loop-constant.invariant.so_far;
      fits = others_fit FitsConst (drop c.loop-constant.constant-index c.args.constants.now)
          (drop (c.loop-constant.constant-index + 1) c.args.constants.now) (c.constant-item.result) e c.loop-constant.invariant.fits;
    }

pub returns : goal.returns
returns c = all_written const_bytes c.args.constants.now c.loop-constant.constant-index c.loop-constant.out _ c.loop-constant-test.false
    c.loop-constant.invariant.so_far
